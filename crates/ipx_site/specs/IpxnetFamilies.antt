-- The metric families of the ports for ipxnet of a router. Defined by this project. The entry point is
-- `ipxnet_families`.
use Rattle.std.specs.Prelude.{ℕ, List, [], ◌∷◌, ◌==◌, codes, if◌then◌else◌, map, vec_len}
use Rattle.std.specs.List.{flat_map}
use Rattle.ipxnet_server.specs.declared.counts.ServerCounts.{ServerCounts}
use Rattle.ipx_site.specs.MetricsText.{MetricFamily, at_port, at_port_by, counter, gauge, unlabelled}
use Rattle.ipx_site.specs.declared.ipxnet_metrics.IpxnetMetrics.{IpxnetMetrics}
use Rattle.ipx_site.specs.declared.ipxnet_metrics.IpxnetPortMetrics.{IpxnetPortMetrics}

-- what a port for ipxnet dropped, by reason
abbrev pub server_drops : ServerCounts → List (List ℕ × ℕ)
server_drops c =
    (codes "malformed", c.malformed) ∷ (codes "node_taken", c.node_taken)
    ∷ (codes "full_of_address", c.full_of_address) ∷ (codes "full", c.full)
    ∷ (codes "unregistered", c.unregistered) ∷ (codes "other_source", c.other_source)
    ∷ (codes "too_long", c.too_long) ∷ (codes "no_such_node", c.no_such_node)
    ∷ (codes "to_itself", c.to_itself) ∷ (codes "ping_elsewhere", c.ping_elsewhere)
    ∷ (codes "broadcast_elsewhere", c.broadcast_elsewhere) ∷ (codes "from_elsewhere", c.from_elsewhere)
    ∷ (codes "response", c.response) ∷ (codes "not_behind", c.not_behind)
    ∷ (codes "for_elsewhere", c.for_elsewhere) ∷ (codes "rate_limited", c.rate_limited)
    ∷ (codes "busy", c.busy) ∷ []

abbrev pub clients_family : List IpxnetPortMetrics → MetricFamily
clients_family ports =
    gauge (codes "ipx_ipxnet_clients") (codes "Players connected at the port")
    (map (λ p. at_port p.number p.clients) ports)

abbrev pub servers_dropped_family : List IpxnetPortMetrics → MetricFamily
servers_dropped_family ports =
    counter (codes "ipx_ipxnet_dropped_total")
    (codes "Datagrams from clients and packets to clients that were dropped, by reason")
    (flat_map (λ p. at_port_by p.number (codes "reason") (server_drops p.drops)) ports)

abbrev pub server_families : IpxnetMetrics → List MetricFamily
server_families m =
    clients_family m.ports.items ∷ servers_dropped_family m.ports.items
    ∷ counter (codes "ipx_ipxnet_unknown_senders_total")
    (codes "Datagrams from senders that may not register") (unlabelled m.unknown_senders)
    ∷ counter (codes "ipx_ipxnet_transmit_packets_total")
    (codes "Datagrams to clients that the system accepted for sending") (unlabelled m.sent) ∷ []

-- the families of the ports for ipxnet; none if the router has no such port
abbrev pub ipxnet_families : IpxnetMetrics → List MetricFamily
ipxnet_families m = if vec_len m.ports == 0 then [] else server_families m
