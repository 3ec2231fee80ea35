use Rattle.ipx_rate_limits.proofs.PortTokens.{directed_seldom}
use Rattle.ipx_rate_limits.specs.QueryRate.{Reaches}
use Rattle.ipx_rate_limits.proofs.query_rate.directed_rate_is_bounded.Goals as goal

pub returns : goal.returns
returns g c = λ port from a b n old course bucket is runs are. directed_seldom (Reaches g.C.Core.hears g.C.Core.hear_out_of_memory) port a b from n old course bucket is runs are
