use Rattle.std.proofs.Common.{◌≡◌, map, take}
use Rattle.std.specs.Prelude.{string_bytes}
use Rattle.ipx_config.specs.Checked.{port_texts}
use Rattle.ipx_config.proofs.start_lines.ports_to_texts.Given as goal

abbrev pub invariant-loop-place : goal.invariant-loop-place
invariant-loop-place l = map string_bytes l.texts.items ≡ port_texts 1 (take l.place l.ports)
