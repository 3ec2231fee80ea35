use Rattle.std.proofs.Common.{◌≡◌, ◌++◌, codes, string_bytes, take}
use Rattle.std.specs.List.{flat_map}
use Rattle.ipx_site.specs.MetricsText.{at_port_by, sample_line}
use Rattle.ipx_site.specs.TunnelFamilies.{drop_reasons}
use Rattle.ipx_site.proofs.tunnel_metrics.put_ports.Given as goal

-- the lines of the first ports follow
abbrev pub invariant-loop-port : goal.invariant-loop-port
invariant-loop-port l =
    string_bytes l.text ≡ string_bytes l.initial.text ++ flat_map (λ p. flat_map (sample_line (codes "ipx_tunnel_dropped_total")) (at_port_by p.number (codes "reason") (drop_reasons p.drops))) (take l.port-index l.ports)
