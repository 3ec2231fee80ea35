use Rattle.spx_link.proofs.Keeping.{lost_alone}
use Rattle.spx_link.proofs.effects.lost_gives_nothing.Goals as goal

pub returns : goal.returns
returns c = lost_alone
