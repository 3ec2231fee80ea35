use Rattle.spx_theory.proofs.PremisesRead.{premises_are_read}
use Rattle.spx_theory.proofs.premises.premises_are_read.Goals as goal

pub returns : goal.returns
returns c = λ s reached. premises_are_read c.laws_below.ensures s reached
