use Rattle.spx_theory.proofs.TheClose.{acknowledged_end_is_read}
use Rattle.spx_theory.proofs.laws.acknowledged_end_is_read.Goals as goal

pub returns : goal.returns
returns c = λ s reached. acknowledged_end_is_read c.laws_below.ensures s reached
