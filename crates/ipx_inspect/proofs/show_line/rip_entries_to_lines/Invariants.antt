use Rattle.std.proofs.Common.{◌≡◌, string_bytes, take}
use Rattle.std.specs.List.{flat_map}
use Rattle.ipx_inspect.specs.ShowLine.{rip_entry_line}
use Rattle.ipx_inspect.proofs.show_line.rip_entries_to_lines.Given as goal

abbrev pub invariant-loop-entry : goal.invariant-loop-entry
invariant-loop-entry l = string_bytes l.lines ≡ flat_map rip_entry_line (take l.entry-index l.entries)
