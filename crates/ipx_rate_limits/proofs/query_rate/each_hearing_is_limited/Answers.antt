use Rattle.ipx_rate_limits.proofs.EachQuery.{each_hearing}
use Rattle.ipx_rate_limits.proofs.query_rate.each_hearing_is_limited.Goals as goal

pub returns : goal.returns
returns g c = each_hearing g.C.Core.hears g.C.Core.hear_out_of_memory
