use Rattle.std.proofs.Common.{length}
use Rattle.ipx_router.specs.Adding.{IsLeftToCut}
use Rattle.ipx_router.proofs.bodies.service_bodies.Given as goal

abbrev pub invariant-loop-rest : goal.invariant-loop-rest
invariant-loop-rest l = IsLeftToCut l.services l.rest l.bodies.items

abbrev pub decreases-loop-rest : goal.decreases-loop-rest
decreases-loop-rest l = length l.rest
