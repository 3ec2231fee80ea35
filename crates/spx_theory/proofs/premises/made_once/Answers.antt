use Rattle.spx_theory.proofs.MadeOnce.{made_once}
use Rattle.spx_theory.proofs.premises.made_once.Goals as goal

pub returns : goal.returns
returns c = λ s reached. made_once c.laws_below.ensures s reached
