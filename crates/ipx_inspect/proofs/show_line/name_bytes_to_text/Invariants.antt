use Rattle.std.proofs.Common.{◌≡◌, string_bytes, take}
use Rattle.std.specs.List.{flat_map}
use Rattle.ipx_inspect.specs.ShowLine.{name_byte}
use Rattle.ipx_inspect.proofs.show_line.name_bytes_to_text.Given as goal

abbrev pub invariant-loop-byte : goal.invariant-loop-byte
invariant-loop-byte l = string_bytes l.text ≡ flat_map name_byte (take l.byte-index l.bytes)
