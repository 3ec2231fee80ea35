use Rattle.spx_link.proofs.Keeping.{take_keeps}
use Rattle.spx_link.proofs.effects.take_changes.Goals as goal

pub returns : goal.returns
returns c = record { numbers = λ l. (take_keeps l).numbers; ends = λ l. (take_keeps l).same }
