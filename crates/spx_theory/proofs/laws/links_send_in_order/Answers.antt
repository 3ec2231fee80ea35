use Rattle.spx_theory.proofs.SenderScenes.{links_send_in_order}
use Rattle.spx_theory.proofs.laws.links_send_in_order.Goals as goal

pub returns : goal.returns
returns c = λ s reached. links_send_in_order c.laws_below.ensures s reached
