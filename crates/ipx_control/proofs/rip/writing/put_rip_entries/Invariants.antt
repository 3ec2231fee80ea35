use Rattle.std.proofs.Common.{◌*◌, take}
use Rattle.std.specs.Prelude.{All}
use Rattle.std.specs.List.{flat_map}
use Rattle.ipx_wire.specs.Ipx.{IsWritten}
use Rattle.ipx_control.specs.Rip.{IsRipEntryInRange, rip_entry_bytes}
use Rattle.ipx_control.proofs.rip.writing.put_rip_entries.Given as goal

abbrev pub invariant-loop-place : goal.invariant-loop-place
invariant-loop-place l = record {
  written : IsWritten l.fn.out (flat_map rip_entry_bytes (take l.place l.entries)) l.out (8 * l.place);
  range : All IsRipEntryInRange (take l.place l.entries);
}
