use Rattle.ipx_site.proofs.MetricLines.{grew, grew_last, grew_more}
use Rattle.ipx_site.proofs.port_metrics.put_port_metrics.Goals as goal

pub returns : goal.returns
returns c =
    let received = grew_more _ _ _ _ _ (grew _ _ _ c.in_ok-put_traffic.ensures) c.in_ok-put_traffic-2.ensures in
    let sent = grew_more _ _ _ _ _ (grew_more _ _ _ _ _ received c.in_ok-put_traffic-3.ensures) c.in_ok-put_traffic-4.ensures in
    grew_last c.put_dropped.result _ _ _ _ _ sent c.put_dropped.ensures
