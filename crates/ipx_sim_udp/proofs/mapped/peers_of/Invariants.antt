use Rattle.std.proofs.Common.{◌≡◌, Some, map, take}
use Rattle.ipx_sim_udp.specs.Mapped.{beside}
use Rattle.ipx_sim_udp.proofs.mapped.peers_of.Given as goal

abbrev pub invariant-loop-spot : goal.invariant-loop-spot
invariant-loop-spot l = map Some l.peers.items ≡ beside l.place l.network (take l.spot-index l.map.spots.items)
