use Rattle.std.proofs.Common.{Ok}
use Rattle.std.specs.List.{range_with_len}
use Rattle.ipx_sim.specs.ScriptDoing.{DoesEach}
use Rattle.ipx_sim.specs.Going.{DrainsPresent}
use Rattle.ipx_sim.proofs.taking.drain_each.Given as goal

abbrev pub invariant-loop-end : goal.invariant-loop-end
invariant-loop-end l = DoesEach DrainsPresent (range_with_len 0 l.end) l.fn.net (Ok l.any) l.net
