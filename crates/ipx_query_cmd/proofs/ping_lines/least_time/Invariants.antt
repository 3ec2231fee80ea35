use Rattle.std.proofs.Common.{◌≡◌, take}
use Rattle.ipx_query_cmd.specs.PingLines.{least_time}
use Rattle.ipx_query_cmd.proofs.ping_lines.least_time.Given as goal

abbrev pub invariant-loop-place : goal.invariant-loop-place
invariant-loop-place l = l.least ≡ least_time (take l.place l.times)
