use Rattle.std.proofs.Common.{◌≡◌, string_bytes, take}
use Rattle.std.specs.List.{flat_map}
use Rattle.ipx_query_cmd.specs.OperatorLines.{json_byte}
use Rattle.ipx_query_cmd.proofs.names.json_bytes_to_text.Given as goal

abbrev pub invariant-loop-byte : goal.invariant-loop-byte
invariant-loop-byte l = string_bytes l.text ≡ flat_map json_byte (take l.byte-index l.bytes)
