use Rattle.std.proofs.Common.{◌≡◌, string_bytes, take}
use Rattle.std.specs.List.{flat_map}
use Rattle.ipx_config.specs.Checked.{static_lines}
use Rattle.ipx_config.proofs.static_lines.entries_to_lines.Given as goal

abbrev pub invariant-loop-entry : goal.invariant-loop-entry
invariant-loop-entry l = string_bytes l.lines ≡ flat_map (static_lines l.site) (take l.entry-index l.entries)
