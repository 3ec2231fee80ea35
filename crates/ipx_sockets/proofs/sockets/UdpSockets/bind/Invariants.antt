use Rattle.std.proofs.Common.{◌≡◌, [], map, take}
use Rattle.ipx_config.specs.PortLists.{datagram_places, datagram_ports}
use Rattle.ipx_config.specs.SitePorts.{udp_ports}
use Rattle.ipx_sockets.specs.Senders.{udp_events}
use Rattle.ipx_sockets.proofs.sockets.UdpSockets.bind.Given as goal

abbrev pub invariant-loop-place : goal.invariant-loop-place
invariant-loop-place g l =
    (map (λ s. s.udp_port) l.sockets.items ≡ udp_ports (datagram_ports (take l.place l.ports)))
    × (map (λ s. s.socket.at) l.sockets.items ≡ datagram_places (datagram_ports (take l.place l.ports)))
    × (udp_events l.sockets.items ≡ map (λ p. []) (datagram_ports (take l.place l.ports)))
