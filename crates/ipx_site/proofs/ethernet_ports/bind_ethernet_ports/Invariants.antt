use Rattle.std.proofs.Common.{◌≡◌, [], map, take, true}
use Rattle.ipx_ethernet_ports.specs.EthernetAddresses.{bound_places, ethernet_events, learning_sockets, remote_drops, remote_places, remote_tunnels}
use Rattle.ipx_ethernet_ports.specs.TunnelDrops.{no_drops}
use Rattle.ipx_config.specs.PortLists.{end_places, ethernet_places, ethernet_ports, learning_ports}
use Rattle.ipx_site.proofs.ethernet_ports.bind_ethernet_ports.Given as goal

abbrev pub invariant-loop-place : goal.invariant-loop-place
invariant-loop-place g l =
    (bound_places l.sockets.ethernet.items ≡ ethernet_places (ethernet_ports (take l.place l.ports)))
    × (remote_places l.sockets.ethernet.items ≡ end_places (ethernet_ports (take l.place l.ports)))
    × (learning_sockets l.sockets.ethernet.items ≡ learning_ports (ethernet_ports (take l.place l.ports)))
    × (remote_tunnels l.sockets.ethernet.items ≡ map (λ p. p.tunnel) (ethernet_ports (take l.place l.ports)))
    × (remote_drops l.sockets.ethernet.items ≡ map (λ p. no_drops) (ethernet_ports (take l.place l.ports)))
    × (ethernet_events l.sockets.ethernet.items ≡ map (λ p. []) (ethernet_ports (take l.place l.ports)))
    × (l.sockets.marks ≡ map (λ p. true) (ethernet_ports (take l.place l.ports)))
