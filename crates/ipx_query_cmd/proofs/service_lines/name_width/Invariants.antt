use Rattle.std.proofs.Common.{◌≡◌, take}
use Rattle.ipx_query_cmd.specs.OperatorLines.{name_of_told, widest}
use Rattle.ipx_query_cmd.proofs.service_lines.name_width.Given as goal

abbrev pub invariant-loop-told : goal.invariant-loop-told
invariant-loop-told l = l.width ≡ widest name_of_told (take l.told-index l.listed)
