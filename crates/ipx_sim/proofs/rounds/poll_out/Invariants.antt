use Rattle.ipx_sim.specs.Going.{PollsOnce}
use Rattle.ipx_sim.proofs.Deeds.{Going}
use Rattle.ipx_sim.proofs.rounds.poll_out.Given as goal

abbrev pub invariant-loop : goal.invariant-loop
invariant-loop l = Going (PollsOnce l.member) l.fn.net l.net l.counter l.any
