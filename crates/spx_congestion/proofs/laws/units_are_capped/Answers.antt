use Rattle.spx_congestion.proofs.Capped.{capped}
use Rattle.spx_congestion.proofs.laws.units_are_capped.Goals as goal

pub returns : goal.returns
returns c = capped
