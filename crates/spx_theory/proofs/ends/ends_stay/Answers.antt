use Rattle.spx_theory.proofs.EndsStaying.{ends_stay}
use Rattle.spx_theory.proofs.ends.ends_stay.Goals as goal

pub returns : goal.returns
returns c = ends_stay
