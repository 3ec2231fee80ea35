use Rattle.spx_link.proofs.Carrying.{poll_says}
use Rattle.spx_link.proofs.effects.poll_gives.Goals as goal

pub returns : goal.returns
returns c = λ l now. (poll_says l now).gives
