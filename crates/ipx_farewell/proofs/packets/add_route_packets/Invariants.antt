use Rattle.std.proofs.Common.{length}
use Rattle.ipx_wire.specs.Assigned.{rip_socket}
use Rattle.ipx_router.specs.RouterPackets.{AreRoutePackets, all_nodes}
use Rattle.ipx_router.specs.Adding.{IsLeftToAdd}
use Rattle.ipx_farewell.proofs.packets.add_route_packets.Given as goal

abbrev pub invariant-loop-rest : goal.invariant-loop-rest
invariant-loop-rest l = IsLeftToAdd (AreRoutePackets (all_nodes l.from.number l.from.port rip_socket)) l.routes l.rest l.fn.packets.items l.packets.items

abbrev pub decreases-loop-rest : goal.decreases-loop-rest
decreases-loop-rest l = length l.rest
