use Rattle.std.proofs.Common.{◌≡◌, string_bytes, take}
use Rattle.std.specs.List.{flat_map}
use Rattle.ipx_query_cmd.specs.OperatorLines.{service_json}
use Rattle.ipx_query_cmd.proofs.service_lines.services_to_json.Given as goal

abbrev pub invariant-loop-told : goal.invariant-loop-told
invariant-loop-told l = string_bytes l.lines ≡ flat_map service_json (take l.told-index l.listed)
