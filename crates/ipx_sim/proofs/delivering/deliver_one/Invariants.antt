use Rattle.std.proofs.Common.{take, Ok}
use Rattle.ipx_sim.specs.Delivering.{DeliversParcelTo}
use Rattle.ipx_sim.specs.ScriptDoing.{DoesEach}
use Rattle.ipx_sim.proofs.delivering.deliver_one.Given as goal

abbrev pub invariant-loop-spot : goal.invariant-loop-spot
invariant-loop-spot l = DoesEach (DeliversParcelTo l.parcel) (take l.spot-index l.spots) l.fn.net (Ok l.any) l.net
