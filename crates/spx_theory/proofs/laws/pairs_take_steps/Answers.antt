use Rattle.spx_theory.proofs.RunOfPair.{pairs_take_steps}
use Rattle.spx_theory.proofs.laws.pairs_take_steps.Goals as goal

pub returns : goal.returns
returns c = λ s reached. pairs_take_steps c.laws_below.ensures s reached
