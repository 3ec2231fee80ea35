use Rattle.spx_link.proofs.Keeping.{poll_keeps}
use Rattle.spx_link.proofs.effects.poll_changes.Goals as goal

pub returns : goal.returns
returns c = record { numbers = λ l now. (poll_keeps l now).numbers; ends = λ l now. (poll_keeps l now).same }
