use Rattle.spx_congestion.proofs.Counting.{gives_up}
use Rattle.spx_congestion.proofs.laws.ten_timeouts_give_up.Goals as goal

pub returns : goal.returns
returns c = gives_up
