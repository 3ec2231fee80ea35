use Rattle.std.proofs.Common.{◌≡◌, ◌++◌, string_bytes, take}
use Rattle.hex.specs.Hex.{encode_lower}
use Rattle.ipx_table_dump.proofs.words.put_hex.Given as goal

abbrev pub invariant-loop-byte : goal.invariant-loop-byte
invariant-loop-byte l = string_bytes l.text ≡ string_bytes l.fn.text ++ encode_lower (take l.byte-index l.bytes)
