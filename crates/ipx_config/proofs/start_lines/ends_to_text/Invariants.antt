use Rattle.std.proofs.Common.{◌≡◌, string_bytes, take}
use Rattle.std.specs.List.{flat_map}
use Rattle.ipx_config.specs.Checked.{ethernet_end_text}
use Rattle.ipx_config.proofs.start_lines.ends_to_text.Given as goal

abbrev pub invariant-loop-end : goal.invariant-loop-end
invariant-loop-end l = string_bytes l.text ≡ flat_map ethernet_end_text (take l.end-index l.ends)
