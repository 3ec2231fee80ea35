use Rattle.ipx_rate_limits.specs.QueryRate.{Reaches}
use Rattle.ipx_rate_limits.proofs.EachQuery.{each_query}
use Rattle.ipx_rate_limits.proofs.query_rate.each_query_is_limited.Goals as goal

pub returns : goal.returns
returns g c =
    each_query c.bytes_are_one_packet.ensures c.bytes_are_one_rip.ensures c.bytes_are_one_sap.ensures
    (Reaches g.C.Core.hears g.C.Core.hear_out_of_memory)
