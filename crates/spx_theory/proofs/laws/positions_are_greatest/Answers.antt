use Rattle.spx_theory.proofs.SenderScenes.{positions_are_greatest}
use Rattle.spx_theory.proofs.laws.positions_are_greatest.Goals as goal

pub returns : goal.returns
returns c = positions_are_greatest
