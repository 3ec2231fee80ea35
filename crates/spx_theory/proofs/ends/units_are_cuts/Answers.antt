use Rattle.spx_theory.proofs.UnitsOfEnds.{units_are_cuts}
use Rattle.spx_theory.proofs.ends.units_are_cuts.Goals as goal

pub returns : goal.returns
returns c = λ s reached. units_are_cuts c.laws_below.ensures s reached
