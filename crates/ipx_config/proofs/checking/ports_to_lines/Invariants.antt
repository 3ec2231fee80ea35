use Rattle.std.proofs.Common.{◌≡◌, [], string_bytes, take}
use Rattle.ipx_config.specs.Checked.{each_after, port_lines}
use Rattle.ipx_config.proofs.checking.ports_to_lines.Given as goal

abbrev pub invariant-loop-place : goal.invariant-loop-place
invariant-loop-place l = string_bytes l.lines ≡ each_after port_lines [] (take l.place l.ports)
