use Rattle.spx_congestion.proofs.Progress.{goes_on}
use Rattle.spx_congestion.proofs.laws.plans_go_on.Goals as goal

pub returns : goal.returns
returns c = goes_on
