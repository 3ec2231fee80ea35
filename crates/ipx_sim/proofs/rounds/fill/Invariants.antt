use Rattle.std.proofs.Common.{Ok}
use Rattle.std.specs.List.{range_with_len}
use Rattle.ipx_sim.specs.ScriptDoing.{DoesEach}
use Rattle.ipx_sim.specs.Going.{SendsNumber}
use Rattle.ipx_sim.proofs.rounds.fill.Given as goal

abbrev pub invariant-loop-number : goal.invariant-loop-number
invariant-loop-number l = DoesEach (SendsNumber l.end) (range_with_len 0 l.number) l.fn.net (Ok l.any) l.net
