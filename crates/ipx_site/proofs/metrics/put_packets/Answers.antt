use Rattle.ipx_site.proofs.MetricLines.{grew, grew_last, grew_more}
use Rattle.ipx_site.proofs.metrics.put_packets.Goals as goal

pub returns : goal.returns
returns c =
    let two = grew_more _ _ _ _ _ (grew _ _ _ c.in_ok-put_one.ensures) c.in_ok-put_one-2.ensures in
    grew_last c.put_outcomes.result _ _ _ _ _ two c.put_outcomes.ensures
