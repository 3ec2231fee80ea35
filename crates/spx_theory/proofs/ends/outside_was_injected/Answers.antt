use Rattle.spx_theory.proofs.Outside.{outside_was_injected}
use Rattle.spx_theory.proofs.ends.outside_was_injected.Goals as goal

pub returns : goal.returns
returns c = λ s reached. outside_was_injected s (c.numbers_are_in_order.ensures s reached)
