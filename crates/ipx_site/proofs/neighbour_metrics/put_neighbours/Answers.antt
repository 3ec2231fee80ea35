use Rattle.ipx_site.proofs.MetricLines.{grew, grew_last, grew_more}
use Rattle.ipx_site.proofs.neighbour_metrics.put_neighbours.Goals as goal

pub returns : goal.returns
returns c =
    grew_last c.put_neighbour_metric-3.result _ _ _ _ _ (grew_more _ _ _ _ _ (grew _ _ _ c.in_ok-put_neighbour_metric.ensures) c.in_ok-put_neighbour_metric-2.ensures) c.put_neighbour_metric-3.ensures
