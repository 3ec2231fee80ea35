use Rattle.std.proofs.Common.{◌≡◌, string_bytes, take}
use Rattle.std.specs.List.{flat_map}
use Rattle.ipx_query_cmd.specs.KnownLines.{known_json_byte}
use Rattle.ipx_query_cmd.proofs.known_service_lines.name_to_json.Given as goal

abbrev pub invariant-loop-byte : goal.invariant-loop-byte
invariant-loop-byte l = string_bytes l.text ≡ flat_map known_json_byte (take l.byte-index l.name)
