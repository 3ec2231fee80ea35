use Rattle.ipx_rate_limits.proofs.NarrowHearings.{node_narrow_seldom}
use Rattle.ipx_rate_limits.specs.QueryRate.{Reaches}
use Rattle.ipx_rate_limits.proofs.query_rate.node_narrow_rate_is_bounded.Goals as goal

pub returns : goal.returns
returns g c = λ who from a b n old course runs are. node_narrow_seldom (Reaches g.C.Core.hears g.C.Core.hear_out_of_memory) who a b from n old course runs are
