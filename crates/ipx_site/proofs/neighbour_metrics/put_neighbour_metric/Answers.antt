use Rattle.ipx_site.specs.MetricsText.{sample_line}
use Rattle.ipx_site.specs.NeighbourFamilies.{figure_of, neighbour_sample}
use Rattle.ipx_site.proofs.MetricLines.{lines_after_head}
use Rattle.ipx_site.proofs.neighbour_metrics.put_neighbour_metric.Goals as goal

pub returns : goal.returns
returns c =
    lines_after_head (sample_line c.args.family.now.name.now) (λ n. neighbour_sample n.0 (figure_of c.args.metric n.1)) c.args.advertisers.now c.loop-source.source-index _ _ _ _ c.loop-source-test.false c.in_ok-put_family.ensures c.loop-source.invariant
