use Rattle.std.proofs.Common.{◌≡◌, ◌-◌, length, drop}
use Rattle.spx_theory.specs.Scan.{seen_all}
use Rattle.ipx_net.specs.LogEntries.{entry_notes}
use Rattle.ipx_net.specs.Sights.{HasSpace, scan_of}
use Rattle.ipx_net.proofs.log_index.LogIndex.read_all.Given as goal

abbrev pub invariant-loop-entry : goal.invariant-loop-entry
invariant-loop-entry l =
    record {
      room : HasSpace (length l.entries - l.entry-index) l.self;
      rest : seen_all (scan_of l.fn.self) (entry_notes l.entries)
          ≡ seen_all (scan_of l.self) (entry_notes (drop l.entry-index l.entries));
    }
