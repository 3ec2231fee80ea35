use Rattle.ipx_rate_limits.proofs.Hearings.{seldom}
use Rattle.ipx_rate_limits.specs.QueryRate.{Reaches}
use Rattle.ipx_rate_limits.proofs.query_rate.query_rate_is_bounded.Goals as goal

pub returns : goal.returns
returns g c = seldom (Reaches g.C.Core.hears g.C.Core.hear_out_of_memory)
