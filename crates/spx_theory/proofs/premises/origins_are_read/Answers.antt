use Rattle.spx_theory.proofs.PremisesRead.{origins_are_read}
use Rattle.spx_theory.proofs.premises.origins_are_read.Goals as goal

pub returns : goal.returns
returns c = λ s reached. origins_are_read c.laws_below.ensures s reached
