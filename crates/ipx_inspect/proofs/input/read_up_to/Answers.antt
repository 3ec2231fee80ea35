use Rattle.std.proofs.Common.{arith}
use Rattle.std.proofs.KnownBytes.{Consumes-trans}
use Rattle.std.proofs.lemmas.Grind.{common_steps}
use Rattle.ipx_inspect.proofs.input.read_up_to.Goals.{in-Ok+else-is_err, in-Err+else-ne}
use Rattle.ipx_inspect.proofs.input.read_up_to.Goals as goal

pub loop-preserved : goal.loop-preserved
loop-preserved g c = elim c.match-read.branch [ in-Ok+else-is_err w ↦ let more = Consumes-trans _ _ _ _ _ c.loop.invariant.0 w.in-Ok.ensures.bytes.0 in grind (arith, common_steps, more) | in-Err+else-ne w ↦ grind (arith, common_steps) ]
