use Rattle.spx_theory.proofs.Allocation.{within_allocation}
use Rattle.spx_theory.proofs.laws.within_allocation.Goals as goal

pub returns : goal.returns
returns c = λ s reached. within_allocation c.laws_below.ensures s reached
