use Rattle.ipx_site.proofs.MetricLines.{all_lines, lines_of_port}
use Rattle.ipx_site.proofs.family.put_each_of_port.Goals as goal

pub returns : goal.returns
returns c =
    all_lines _ c.args.metrics.now c.loop-word.word-index _ _ _ c.loop-word-test.false c.loop-word.invariant
    (lines_of_port c.args.family.now.name.now c.args.label.now c.args.number (λ m. (m.0.now, m.1)) c.args.metrics.now)
