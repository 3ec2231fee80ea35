use Rattle.std.proofs.Common.{◌∙◌, codes, refl}
use Rattle.std.specs.List.{flat_map}
use Rattle.ipx_site.specs.MetricsText.{at_port_by, sample_line}
use Rattle.ipx_site.specs.TotalFamilies.{dropped_outcomes}
use Rattle.ipx_site.proofs.MetricLines.{after_head, numbered_lists, numbered_more}
use Rattle.ipx_site.proofs.port_metrics.put_dropped.Goals as goal

pub loop-place-preserved : goal.loop-place-preserved
loop-place-preserved c =
    c.in_ok-put_drops.ensures
    ∙ numbered_more (λ p. flat_map (sample_line (codes "ipx_port_dropped_total")) (at_port_by p.0 (codes "reason") (dropped_outcomes p.1.outcomes))) c.args.counters.now c.loop-place.place _ _ _ _ c.loop-place-test.true c.loop-place.invariant refl

pub returns : goal.returns
returns c =
    after_head _ _ _ _ _ c.in_ok-put_family.ensures
    (numbered_lists (sample_line (codes "ipx_port_dropped_total")) (λ p. at_port_by p.0 (codes "reason") (dropped_outcomes p.1.outcomes)) c.args.counters.now c.loop-place.place _ _ c.loop-place-test.false c.loop-place.invariant)
