use Rattle.spx_congestion.proofs.Waited.{are_bounded}
use Rattle.spx_congestion.proofs.laws.waits_are_bounded.Goals as goal

pub returns : goal.returns
returns c = are_bounded
