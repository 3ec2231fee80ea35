use Rattle.spx_congestion.proofs.Waited.{postpones}
use Rattle.spx_congestion.proofs.laws.nothing_else_postpones.Goals as goal

pub returns : goal.returns
returns c = postpones
