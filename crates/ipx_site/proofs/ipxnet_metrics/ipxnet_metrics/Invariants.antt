use Rattle.std.proofs.Common.{◌≡◌, option_map, take}
use Rattle.std.specs.List.{enumerate_from, filter_map}
use Rattle.ipx_site.specs.KindMetrics.{server_at, server_metrics}
use Rattle.ipx_site.proofs.ipxnet_metrics.ipxnet_metrics.Given as goal

-- the metrics of the first ports
abbrev pub invariant-loop-place : goal.invariant-loop-place
invariant-loop-place l =
    l.metrics.items ≡ filter_map (λ p. option_map (server_metrics p.0) (server_at l.ports.servers.servers.items p.1)) (enumerate_from 1 (take l.place l.port_index-items))
