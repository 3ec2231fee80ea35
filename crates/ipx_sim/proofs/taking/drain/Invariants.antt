use Rattle.ipx_sim.specs.Going.{TakesOnce}
use Rattle.ipx_sim.proofs.Deeds.{Going}
use Rattle.ipx_sim.proofs.taking.drain.Given as goal

abbrev pub invariant-loop : goal.invariant-loop
invariant-loop l = Going (TakesOnce l.end) l.fn.net l.net l.counter l.any
