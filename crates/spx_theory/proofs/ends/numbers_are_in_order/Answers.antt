use Rattle.spx_theory.proofs.Numbering.{numbers_are_in_order}
use Rattle.spx_theory.proofs.ends.numbers_are_in_order.Goals as goal

pub returns : goal.returns
returns c = λ s reached. numbers_are_in_order c.laws_below.ensures s reached
