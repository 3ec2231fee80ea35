use Rattle.spx_theory.proofs.PremisesRead.{between_is_read}
use Rattle.spx_theory.proofs.premises.between_is_read.Goals as goal

pub returns : goal.returns
returns c = λ s reached. between_is_read c.laws_below.ensures s reached
