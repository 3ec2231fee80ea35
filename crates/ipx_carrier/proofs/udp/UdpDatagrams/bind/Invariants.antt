use Rattle.std.proofs.Common.{◌≡◌, [], length, map, take}
use Rattle.ipx_carrier.specs.Traces.{socket_events, v4_at}
use Rattle.ipx_carrier.proofs.udp.UdpDatagrams.bind.Given as goal

abbrev pub invariant-loop-ip : goal.invariant-loop-ip
invariant-loop-ip g l = (length l.sockets.items ≡ l.ip-index)
    × (map (λ s. s.at) l.sockets.items ≡ map (λ ip. v4_at ip l.port) (take l.ip-index l.addresses))
    × (socket_events l.sockets.items ≡ map (λ ip. []) (take l.ip-index l.addresses))
