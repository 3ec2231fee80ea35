use Rattle.std.proofs.Common.{◌≡◌, string_bytes, take}
use Rattle.std.specs.List.{flat_map}
use Rattle.ipx_inspect.specs.ShowLine.{service_line}
use Rattle.ipx_inspect.proofs.show_line.services_to_lines.Given as goal

abbrev pub invariant-loop-entry : goal.invariant-loop-entry
invariant-loop-entry l = string_bytes l.lines ≡ flat_map service_line (take l.entry-index l.services)
