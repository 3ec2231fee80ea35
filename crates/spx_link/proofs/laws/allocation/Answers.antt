use Rattle.spx_link.proofs.Distances.{allocation_carried, allocation_current, allocation_stale, allocation_read}
use Rattle.spx_link.proofs.laws.allocation.Goals as goal

pub returns-clause-carried : goal.returns-clause-carried
returns-clause-carried c = allocation_carried

pub returns-clause-current : goal.returns-clause-current
returns-clause-current c = allocation_current

pub returns-clause-stale : goal.returns-clause-stale
returns-clause-stale c = allocation_stale

pub returns-clause-read : goal.returns-clause-read
returns-clause-read c = allocation_read
