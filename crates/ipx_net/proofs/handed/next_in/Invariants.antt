use Rattle.std.proofs.Common.{◌≡◌, ◌≤◌, ◌-◌, length, drop}
use Rattle.spx_theory.specs.Handed.{handed_in}
use Rattle.ipx_net.specs.LogEntries.{entry_notes}
use Rattle.ipx_net.proofs.handed.next_in.Given as goal

abbrev pub invariant-loop-at : goal.invariant-loop-at
invariant-loop-at l =
    record {
      within : l.at ≤ length l.log;
      rest : handed_in l.end (entry_notes (drop l.from l.log)) ≡ handed_in l.end (entry_notes (drop l.at l.log));
    }

abbrev pub decreases-loop-at : goal.decreases-loop-at
decreases-loop-at l = length l.log - l.at
