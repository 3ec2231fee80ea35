use Rattle.std.proofs.Common.{length}
use Rattle.ipx_router.specs.RouterPackets.{AreRoutePackets}
use Rattle.ipx_router.specs.Adding.{IsLeftToAdd}
use Rattle.ipx_router.proofs.packets.add_route_packets.Given as goal

abbrev pub invariant-loop-rest : goal.invariant-loop-rest
invariant-loop-rest l = IsLeftToAdd (AreRoutePackets l.to) l.entries l.rest l.fn.replies.items l.replies.items

abbrev pub decreases-loop-rest : goal.decreases-loop-rest
decreases-loop-rest l = length l.rest
