use Rattle.std.proofs.Common.{◌≡◌, string_bytes, take}
use Rattle.std.specs.List.{flat_map}
use Rattle.ipx_query_cmd.specs.OperatorLines.{service_row}
use Rattle.ipx_query_cmd.proofs.service_lines.services_to_rows.Given as goal

abbrev pub invariant-loop-told : goal.invariant-loop-told
invariant-loop-told l = string_bytes l.rows ≡ flat_map (service_row l.kinds l.names) (take l.told-index l.listed)
