use Rattle.ipx_query_cmd.proofs.PingSteps.{most_step}
use Rattle.ipx_query_cmd.proofs.ping_lines.most_time.Goals as goal

pub loop-time-preserved : goal.loop-time-preserved
loop-time-preserved c = most_step c.args.times.now c.loop-time.time-index 0 c.loop-time.most c.max-most.result c.loop-time-test.true c.loop-time.invariant c.max-most.ensures
