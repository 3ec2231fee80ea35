use Rattle.ipx_rate_limits.proofs.PortTokens.{narrow_seldom}
use Rattle.ipx_rate_limits.specs.QueryRate.{Reaches}
use Rattle.ipx_rate_limits.proofs.query_rate.narrow_rate_is_bounded.Goals as goal

pub returns : goal.returns
returns g c = λ port from a b n old course runs are. narrow_seldom (Reaches g.C.Core.hears g.C.Core.hear_out_of_memory) port a b from n old course runs are
