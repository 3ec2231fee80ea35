-- What was dropped at the tunnels of a router's Ethernet ports, and the metric family of that. Defined by this
-- project. The entry points are `tunnel_ports` and `tunnel_families`.
use Rattle.std.specs.Prelude.{ℕ, List, [], ◌∷◌, Option, None, ◌==◌, codes, if◌then◌else◌, length, option_map, slice_get}
use Rattle.std.specs.List.{enumerate_from, filter_map, flat_map}
use Rattle.ipx_ethernet_ports.specs.EthernetAddresses.{tunnel_drops}
use Rattle.ipx_ethernet_ports.specs.declared.socket.EthernetSocket.{EthernetSocket}
use Rattle.ipx_ethernet_ports.specs.declared.tunnel_drops.TunnelDrops.{TunnelDrops}
use Rattle.ipx_site.specs.MetricsText.{MetricFamily, at_port_by, counter}
use Rattle.ipx_site.specs.declared.router_ports.PortIndex.{PortIndex}
use Rattle.ipx_site.specs.declared.router_ports.PortIndex.TheVariants.{Datagrams, Ethernet, IpxnetServer}
use Rattle.ipx_site.specs.declared.tunnel_metrics.TunnelPortMetrics.{TunnelPortMetrics}

-- what a port dropped because it had no frame in its tunnel; None for a port without a tunnel
abbrev pub drops_at_port : List EthernetSocket → PortIndex → Option TunnelDrops
drops_at_port sockets (Datagrams place) = None
drops_at_port sockets (Ethernet place) = tunnel_drops (slice_get sockets place)
drops_at_port sockets (IpxnetServer place) = None

-- what the port with this number dropped
abbrev pub port_drops : ℕ → TunnelDrops → TunnelPortMetrics
port_drops number drops = record { number = number; drops = drops }

-- what each port with a tunnel dropped, with its number among all ports of the router
abbrev pub tunnel_ports : List EthernetSocket → List PortIndex → List TunnelPortMetrics
tunnel_ports sockets port_indices =
    filter_map (λ p. option_map (port_drops p.0) (drops_at_port sockets p.1)) (enumerate_from 1 port_indices)

-- the datagrams of each reason
abbrev pub drop_reasons : TunnelDrops → List (List ℕ × ℕ)
drop_reasons d =
    (codes "short", d.short) ∷ (codes "not_vxlan", d.not_vxlan) ∷ (codes "other_vni", d.other_vni)
    ∷ (codes "control", d.control) ∷ (codes "other_version", d.other_version)
    ∷ (codes "other_session", d.other_session) ∷ (codes "other_cookie", d.other_cookie) ∷ []

abbrev pub tunnel_family : List TunnelPortMetrics → MetricFamily
tunnel_family ports =
    counter (codes "ipx_tunnel_dropped_total")
    (codes "Datagrams of remotes that carry no frame in the tunnel of their port, by reason")
    (flat_map (λ p. at_port_by p.number (codes "reason") (drop_reasons p.drops)) ports)

-- the family; none if no port has a tunnel
abbrev pub tunnel_families : List TunnelPortMetrics → List MetricFamily
tunnel_families ports = if length ports == 0 then [] else tunnel_family ports ∷ []
