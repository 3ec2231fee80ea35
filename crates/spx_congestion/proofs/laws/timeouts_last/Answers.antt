use Rattle.spx_congestion.proofs.Waited.{last}
use Rattle.spx_congestion.proofs.laws.timeouts_last.Goals as goal

pub returns : goal.returns
returns c = last
