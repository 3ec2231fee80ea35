use Rattle.ipx_site.proofs.MetricLines.{grew, grew_last, grew_more}
use Rattle.ipx_site.proofs.metrics.put_state.Goals as goal

pub returns : goal.returns
returns c =
    let two = grew_more _ _ _ _ _ (grew _ _ _ c.in_ok-put_faults.ensures) c.in_ok-put_one.ensures in
    let four = grew_more _ _ _ _ _ (grew_more _ _ _ _ _ two c.in_ok-put_one-2.ensures) c.in_ok-put_one-3.ensures in
    grew_last c.put_one-4.result _ _ _ _ _ four c.put_one-4.ensures
