use Rattle.std.proofs.Common.{◌∙◌, refl}
use Rattle.ipx_table_dump.proofs.Rows.{texts_more}
use Rattle.ipx_site.proofs.MetricLines.{after_head, all_lines, lines_by_label}
use Rattle.ipx_site.proofs.family.put_each.Goals as goal

pub loop-word-preserved : goal.loop-word-preserved
loop-word-preserved c =
    c.in_ok-put_labelled.ensures ∙ texts_more _ c.args.metrics.now c.loop-word.word-index _ _ _ _ c.loop-word-test.true c.loop-word.invariant refl

pub returns : goal.returns
returns c =
    after_head _ _ _ _ _ c.in_ok-put_family.ensures (all_lines _ c.args.metrics.now c.loop-word.word-index _ _ _ c.loop-word-test.false c.loop-word.invariant
    (lines_by_label c.args.family.now.name.now c.args.label.now (λ m. (m.0.now, m.1)) c.args.metrics.now))
