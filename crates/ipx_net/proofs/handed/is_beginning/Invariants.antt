use Rattle.std.proofs.Common.{◌≤◌, ◌↔◌, length, drop}
use Rattle.spx_theory.specs.Handed.{handed_in, handed_out, IsBeginning}
use Rattle.ipx_net.specs.LogEntries.{entry_notes}
use Rattle.ipx_net.proofs.handed.is_beginning.Given as goal

abbrev pub invariant-loop-entry : goal.invariant-loop-entry
invariant-loop-entry l =
    record {
      within : l.next ≤ length l.log;
      rest : IsBeginning (handed_out l.end (entry_notes l.log)) (handed_in l.peer (entry_notes l.log))
          ↔ IsBeginning (handed_out l.end (entry_notes (drop l.entry-index l.log))) (handed_in l.peer (entry_notes (drop l.next l.log)));
    }
