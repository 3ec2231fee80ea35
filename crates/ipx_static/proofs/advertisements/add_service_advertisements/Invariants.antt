use Rattle.std.proofs.Common.{false, length}
use Rattle.ipx_wire.specs.Assigned.{sap_socket}
use Rattle.ipx_router.specs.RouterPackets.{AreServicePackets}
use Rattle.ipx_router.specs.Adding.{IsLeftToAdd}
use Rattle.ipx_static.specs.StaticAdvertisements.{heard_on}
use Rattle.ipx_static.proofs.advertisements.add_service_advertisements.Given as goal

abbrev pub invariant-loop-rest : goal.invariant-loop-rest
invariant-loop-rest l = IsLeftToAdd (AreServicePackets (heard_on l.from.port l.from.node sap_socket) false) l.services l.rest l.fn.advertisements.items l.advertisements.items

abbrev pub decreases-loop-rest : goal.decreases-loop-rest
decreases-loop-rest l = length l.rest
