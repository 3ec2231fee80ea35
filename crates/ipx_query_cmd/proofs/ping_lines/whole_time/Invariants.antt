use Rattle.std.proofs.Common.{◌≡◌, ◌≤◌, ◌*◌, take}
use Rattle.ipx_query_cmd.specs.PingLines.{whole_time}
use Rattle.ipx_query_cmd.proofs.ping_lines.whole_time.Given as goal

-- each is under 2 ^ 64
abbrev pub invariant-loop-time : goal.invariant-loop-time
invariant-loop-time l = record {
  is : l.whole ≡ whole_time (take l.time-index l.times);
  most : l.whole ≤ l.time-index * 18446744073709551615;
}
