use Rattle.std.proofs.Common.{◌≡◌, option_map, take}
use Rattle.std.specs.List.{enumerate_from, filter_map}
use Rattle.ipx_site.specs.TunnelFamilies.{drops_at_port, port_drops}
use Rattle.ipx_site.proofs.tunnel_metrics.tunnel_metrics.Given as goal

-- the metrics of the first ports
abbrev pub invariant-loop-place : goal.invariant-loop-place
invariant-loop-place l =
    l.metrics.items ≡ filter_map (λ p. option_map (port_drops p.0) (drops_at_port l.ports.ethernet.sockets.ethernet.items p.1)) (enumerate_from 1 (take l.place l.port_index-items))
