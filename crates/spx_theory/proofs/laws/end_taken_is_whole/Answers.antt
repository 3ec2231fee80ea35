use Rattle.spx_theory.proofs.TheClose.{end_taken_is_whole}
use Rattle.spx_theory.proofs.laws.end_taken_is_whole.Goals as goal

pub returns : goal.returns
returns c = λ s reached. end_taken_is_whole c.laws_below.ensures s reached
