use Rattle.spx_link.proofs.Distances.{after_base, allocation_parts, after_read, free_at_bound}
use Rattle.spx_link.proofs.laws.windows.Goals as goal

pub returns-clause-acknowledgement : goal.returns-clause-acknowledgement
returns-clause-acknowledgement c = after_base

pub returns-clause-allocation : goal.returns-clause-allocation
returns-clause-allocation c = allocation_parts

pub returns-clause-sequence : goal.returns-clause-sequence
returns-clause-sequence c = after_read

pub returns-clause-free : goal.returns-clause-free
returns-clause-free c = free_at_bound
