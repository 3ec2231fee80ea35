use Rattle.std.proofs.Common.{◌∙◌, ap, string_bytes, sym}
use Rattle.std.proofs.lemmas.Bool.{ltb-false, ltb-true}
use Rattle.ipx_site.specs.MetricsText.{sample_line}
use Rattle.ipx_site.specs.PortFamilies.{count_of, port_sample}
use Rattle.ipx_site.proofs.MetricLines.{after_head, all_pairs, no_pairs, pair_line_more, pair_past}
use Rattle.ipx_site.proofs.port_metrics.put_traffic.Goals as goal
use Rattle.ipx_site.proofs.port_metrics.put_traffic.Goals.{in-Some+in_ok-put_count, in_default}

pub loop-place-init : goal.loop-place-init
loop-place-init c =
    no_pairs (λ p. sample_line c.args.family.now.name.now (port_sample p.0 p.1.0 (count_of c.args.passed p.1.1))) c.args.ports.now _

pub loop-place-preserved : goal.loop-place-preserved
loop-place-preserved c =
    elim c.match-get.branch [
      | in-Some+in_ok-put_count w ↦
          ap string_bytes w.text-is
          ∙ pair_line_more (λ number port n. sample_line c.args.family.now.name.now (port_sample number port n)) (λ x. count_of c.args.passed x) c.args.ports.now c.args.counters.now c.loop-place.place _ _ _ _ _ _ _
          (ltb-true _ _ (sym w.in-Some.ensures.lookup.0)) c.loop-place-test.true c.loop-place.invariant w.in-Some.ensures.lookup.1 w.count_of-count.ensures w.in_ok-put_count.ensures
      | in_default w ↦
          ap string_bytes w.text-is
          ∙ pair_past (λ p. sample_line c.args.family.now.name.now (port_sample p.0 p.1.0 (count_of c.args.passed p.1.1))) c.args.ports.now c.args.counters.now c.loop-place.place _ _ (ltb-false _ _ (sym w.in_default.ensures.lookup.0)) c.loop-place-test.true c.loop-place.invariant
    ]

pub returns : goal.returns
returns c =
    after_head _ _ _ _ _ c.in_ok-put_family.ensures
    (all_pairs (sample_line c.args.family.now.name.now) (λ p. port_sample p.0 p.1.0 (count_of c.args.passed p.1.1)) c.args.ports.now c.args.counters.now c.loop-place.place _ _ c.loop-place-test.false c.loop-place.invariant)
