-- What a router logs of the datagrams that have no frame in the tunnel of their port. Defined by this project.
use Rattle.std.specs.Prelude.{ℕ, List, map, Option, Some, None}
use Rattle.ipx_ethernet_ports.specs.TunnelDrops.{drops_total}
use Rattle.ipx_ethernet_ports.specs.declared.socket.EthernetSocket.{EthernetSocket}
use Rattle.ipx_ethernet_ports.specs.declared.tunnel_drops.TunnelDrops.{TunnelDrops}
use Rattle.ipx_site.specs.TunnelFamilies.{drops_at_port}
use Rattle.ipx_site.specs.declared.router_ports.PortIndex.{PortIndex}

-- how many there were; none for a port without a tunnel
abbrev pub port_drop_count : Option TunnelDrops → ℕ
port_drop_count None = 0
port_drop_count (Some d) = drops_total d

-- how many there were at each port
abbrev pub drop_counts : List EthernetSocket → List PortIndex → List ℕ
drop_counts sockets port_indices = map (λ p. port_drop_count (drops_at_port sockets p)) port_indices
