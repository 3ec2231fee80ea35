use Rattle.std.proofs.Common.{◌*◌, take}
use Rattle.std.specs.Prelude.{All}
use Rattle.std.specs.List.{flat_map}
use Rattle.ipx_wire.specs.Ipx.{IsWritten}
use Rattle.ipx_control.specs.Sap.{IsServiceEntryInRange, service_bytes}
use Rattle.ipx_control.proofs.sap.writing.put_services.Given as goal

abbrev pub invariant-loop-place : goal.invariant-loop-place
invariant-loop-place l = record {
  written : IsWritten l.fn.out (flat_map service_bytes (take l.place l.services)) l.out (64 * l.place);
  range : All IsServiceEntryInRange (take l.place l.services);
}
