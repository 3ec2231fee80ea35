use Rattle.std.proofs.Common.{length}
use Rattle.ipx_wire.specs.Assigned.{rip_socket}
use Rattle.ipx_router.specs.RouterPackets.{AreRoutePackets}
use Rattle.ipx_router.specs.Adding.{IsLeftToAdd}
use Rattle.ipx_static.specs.StaticAdvertisements.{heard_on}
use Rattle.ipx_static.proofs.advertisements.add_route_advertisements.Given as goal

abbrev pub invariant-loop-rest : goal.invariant-loop-rest
invariant-loop-rest l = IsLeftToAdd (AreRoutePackets (heard_on l.from.port l.from.node rip_socket)) l.routes l.rest l.fn.advertisements.items l.advertisements.items

abbrev pub decreases-loop-rest : goal.decreases-loop-rest
decreases-loop-rest l = length l.rest
