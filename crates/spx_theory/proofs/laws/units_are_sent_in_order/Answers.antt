use Rattle.spx_theory.proofs.SenderScenes.{units_are_sent_in_order}
use Rattle.spx_theory.proofs.laws.units_are_sent_in_order.Goals as goal

pub returns : goal.returns
returns c = λ s reached. units_are_sent_in_order c.laws_below.ensures s reached
