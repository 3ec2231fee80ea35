use Rattle.std.proofs.Common.{◌≡◌, take}
use Rattle.ipx_query_cmd.specs.OperatorLines.{kind_of_told, widest}
use Rattle.ipx_query_cmd.proofs.service_lines.type_width.Given as goal

abbrev pub invariant-loop-told : goal.invariant-loop-told
invariant-loop-told l = l.width ≡ widest kind_of_told (take l.told-index l.listed)
