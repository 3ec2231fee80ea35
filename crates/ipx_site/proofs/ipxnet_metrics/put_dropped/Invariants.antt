use Rattle.std.proofs.Common.{◌≡◌, ◌++◌, codes, string_bytes, take}
use Rattle.std.specs.List.{flat_map}
use Rattle.ipx_site.specs.MetricsText.{at_port_by, sample_line}
use Rattle.ipx_site.specs.IpxnetFamilies.{server_drops}
use Rattle.ipx_site.proofs.ipxnet_metrics.put_dropped.Given as goal

-- the lines of the first ports follow
abbrev pub invariant-loop-port : goal.invariant-loop-port
invariant-loop-port l =
    string_bytes l.text ≡ string_bytes l.initial.text ++ flat_map (λ p. flat_map (sample_line (codes "ipx_ipxnet_dropped_total")) (at_port_by p.number (codes "reason") (server_drops p.drops))) (take l.port-index l.ports)
