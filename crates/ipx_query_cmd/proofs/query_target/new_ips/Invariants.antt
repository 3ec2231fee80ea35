use Rattle.std.proofs.Common.{◌≡◌, [], take}
use Rattle.ipx_query_cmd.specs.QueryTargets.{new_ips}
use Rattle.ipx_query_cmd.proofs.query_target.new_ips.Given as goal

abbrev pub invariant-loop-place : goal.invariant-loop-place
invariant-loop-place l = l.found.items ≡ new_ips [] (take l.place l.ips)
