use Rattle.ipx_site.specs.RoutingRuns.{Rounds}
use Rattle.ipx_site.proofs.running_router.RunningRouter.run.Given as goal

-- the rounds run so far
abbrev pub invariant-loop-round : goal.invariant-loop-round
invariant-loop-round g l = Rounds l._round l.fn.self l.self
