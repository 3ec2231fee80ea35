use Rattle.spx_link.proofs.Distances.{acknowledgement_current, acknowledgement_back, acknowledgement_stale, acknowledgement_read, acknowledgement_taken}
use Rattle.spx_link.proofs.laws.acknowledgement.Goals as goal

pub returns-clause-current : goal.returns-clause-current
returns-clause-current c = acknowledgement_current

pub returns-clause-back : goal.returns-clause-back
returns-clause-back c = acknowledgement_back

pub returns-clause-stale : goal.returns-clause-stale
returns-clause-stale c = acknowledgement_stale

pub returns-clause-read : goal.returns-clause-read
returns-clause-read c = acknowledgement_read

pub returns-clause-taken : goal.returns-clause-taken
returns-clause-taken c = acknowledgement_taken
