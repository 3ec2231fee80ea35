use Rattle.spx_theory.proofs.TheClose.{confirmed_is_read}
use Rattle.spx_theory.proofs.laws.confirmed_is_read.Goals as goal

pub returns : goal.returns
returns c = λ s reached. confirmed_is_read c.laws_below.ensures s reached
