use Rattle.std.proofs.Common.{length}
use Rattle.ipx_router.specs.RouterPackets.{AreServicePackets}
use Rattle.ipx_router.specs.Adding.{IsLeftToAdd}
use Rattle.ipx_router.proofs.packets.add_service_packets.Given as goal

abbrev pub invariant-loop-rest : goal.invariant-loop-rest
invariant-loop-rest l = IsLeftToAdd (AreServicePackets l.to l.nearest) l.entries l.rest l.fn.replies.items l.replies.items

abbrev pub decreases-loop-rest : goal.decreases-loop-rest
decreases-loop-rest l = length l.rest
