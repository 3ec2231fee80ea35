use Rattle.spx_link.proofs.Distances.{sequence_current, sequence_stale, sequence_first, sequence_next, sequence_window}
use Rattle.spx_link.proofs.laws.sequence.Goals as goal

pub returns-clause-current : goal.returns-clause-current
returns-clause-current c = sequence_current

pub returns-clause-stale : goal.returns-clause-stale
returns-clause-stale c = sequence_stale

pub returns-clause-first : goal.returns-clause-first
returns-clause-first c = sequence_first

pub returns-clause-next : goal.returns-clause-next
returns-clause-next c = sequence_next

pub returns-clause-window : goal.returns-clause-window
returns-clause-window c = sequence_window
