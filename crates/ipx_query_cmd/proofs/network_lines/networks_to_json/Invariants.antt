use Rattle.std.proofs.Common.{◌≡◌, string_bytes, take}
use Rattle.std.specs.List.{flat_map}
use Rattle.ipx_query_cmd.specs.OperatorLines.{network_json}
use Rattle.ipx_query_cmd.proofs.network_lines.networks_to_json.Given as goal

abbrev pub invariant-loop-told : goal.invariant-loop-told
invariant-loop-told l = string_bytes l.lines ≡ flat_map network_json (take l.told-index l.listed)
