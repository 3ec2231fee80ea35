use Rattle.std.proofs.Common.{◌≡◌, ◌++◌}
use Rattle.ipx_control.proofs.rip.reading.rip_entries_listed.Given as goal

-- the list so far, with what is left, is all there was
abbrev pub invariant-loop-entry : goal.invariant-loop-entry
invariant-loop-entry l = l.listed.items ++ l.entry-iterator ≡ l.fn.entries
