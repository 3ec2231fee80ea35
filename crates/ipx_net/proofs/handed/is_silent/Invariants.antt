use Rattle.std.proofs.Common.{◌≡◌, drop}
use Rattle.spx_theory.specs.Handed.{handed_out}
use Rattle.ipx_net.specs.LogEntries.{entry_notes}
use Rattle.ipx_net.proofs.handed.is_silent.Given as goal

abbrev pub invariant-loop-entry : goal.invariant-loop-entry
invariant-loop-entry l =
    handed_out l.end (entry_notes l.log) ≡ handed_out l.end (entry_notes (drop l.entry-index l.log))
