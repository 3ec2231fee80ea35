use Rattle.std.proofs.Common.{false, length}
use Rattle.ipx_wire.specs.Assigned.{sap_socket}
use Rattle.ipx_router.specs.RouterPackets.{AreServicePackets, all_nodes}
use Rattle.ipx_router.specs.Adding.{IsLeftToAdd}
use Rattle.ipx_farewell.proofs.packets.add_service_packets.Given as goal

abbrev pub invariant-loop-rest : goal.invariant-loop-rest
invariant-loop-rest l = IsLeftToAdd (AreServicePackets (all_nodes l.from.number l.from.port sap_socket) false) l.services l.rest l.fn.packets.items l.packets.items

abbrev pub decreases-loop-rest : goal.decreases-loop-rest
decreases-loop-rest l = length l.rest
