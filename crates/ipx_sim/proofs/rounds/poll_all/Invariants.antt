use Rattle.std.proofs.Common.{take, Ok}
use Rattle.ipx_sim.specs.ScriptDoing.{DoesEach}
use Rattle.ipx_sim.specs.Going.{PollsOut}
use Rattle.ipx_sim.proofs.rounds.poll_all.Given as goal

abbrev pub invariant-loop-member : goal.invariant-loop-member
invariant-loop-member l = DoesEach PollsOut (take l.member-index l.members) l.fn.net (Ok l.any) l.net
