use Rattle.ipx_site.proofs.MetricLines.{grew, grew_last, grew_more}
use Rattle.ipx_site.proofs.metrics.put_drops.Goals as goal

pub returns : goal.returns
returns c =
    let two = grew_more _ _ _ _ _ (grew _ _ _ c.in_ok-put_dropped.ensures) c.in_ok-put_one.ensures in
    grew_last c.put_one-2.result _ _ _ _ _ (grew_more _ _ _ _ _ two c.in_ok-put_filtered.ensures) c.put_one-2.ensures
