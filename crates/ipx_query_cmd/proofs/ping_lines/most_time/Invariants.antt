use Rattle.std.proofs.Common.{◌≡◌, take}
use Rattle.ipx_query_cmd.specs.PingLines.{most_time}
use Rattle.ipx_query_cmd.proofs.ping_lines.most_time.Given as goal

abbrev pub invariant-loop-time : goal.invariant-loop-time
invariant-loop-time l = l.most ≡ most_time (take l.time-index l.times)
