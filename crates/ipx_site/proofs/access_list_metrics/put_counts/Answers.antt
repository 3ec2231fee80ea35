use Rattle.std.proofs.Common.{◌∙◌, ◌+◌, ap, option_map}
use Rattle.std.specs.List.{flat_map}
use Rattle.ipx_site.specs.MetricsText.{sample_line}
use Rattle.ipx_site.specs.AccessListMetrics.{access_list_count, at_port_if, drops_at_port_index}
use Rattle.ipx_site.proofs.MetricLines.{numbered_lists, numbered_more}
use Rattle.ipx_site.proofs.access_list_metrics.put_counts.Goals as goal

pub loop-place-preserved : goal.loop-place-preserved
loop-place-preserved c =
    c.in_ok-put_count.ensures
    ∙ numbered_more (λ p. flat_map (sample_line c.args.family.now.name.now) (at_port_if p.0 (option_map (access_list_count c.args.count) (drops_at_port_index c.args.kept.now p.1)))) c.args.port_indices.now c.loop-place.place _ _ _ _ c.loop-place-test.true c.loop-place.invariant
    (ap (λ o. flat_map (sample_line c.args.family.now.name.now) (at_port_if (c.loop-place.place + 1) o)) c.count_at-here.ensures)

pub returns : goal.returns
returns c =
    numbered_lists (sample_line c.args.family.now.name.now) (λ p. at_port_if p.0 (option_map (access_list_count c.args.count) (drops_at_port_index c.args.kept.now p.1))) c.args.port_indices.now c.loop-place.place _ _ c.loop-place-test.false c.loop-place.invariant
