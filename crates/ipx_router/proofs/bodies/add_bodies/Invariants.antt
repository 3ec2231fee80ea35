use Rattle.ipx_router.proofs.Alike.{AreLeft}
use Rattle.ipx_router.proofs.bodies.add_bodies.Given as goal

-- packets of the bodies so far were added
abbrev pub invariant-loop-body : goal.invariant-loop-body
invariant-loop-body l = AreLeft l.to l.bodies l.fn.replies.items l.body-index l.replies.items
