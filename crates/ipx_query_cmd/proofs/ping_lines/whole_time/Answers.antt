use Rattle.std.proofs.Common.{◌+◌, ◌∙◌, ap, rules}
use Rattle.ipx_query_cmd.proofs.PingSteps.{whole_step}
use Rattle.ipx_query_cmd.proofs.ping_lines.whole_time.Goals as goal

pub loop-time-preserved : goal.loop-time-preserved
loop-time-preserved c = record {
  is =
      ap (λ n. c.loop-time.whole + n) c.from-whole.ensures
      ∙ whole_step c.args.times.now c.loop-time.time-index _ c.loop-time.whole c.loop-time-test.true c.loop-time.invariant.is;
  most = search rules;
}
