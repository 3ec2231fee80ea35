use Rattle.spx_link.proofs.MachineAllowed.{one_allowed, two_allowed}
use Rattle.spx_link.proofs.machine.allowances.Goals as goal

pub returns-clause-one : goal.returns-clause-one
returns-clause-one c = one_allowed

pub returns-clause-two : goal.returns-clause-two
returns-clause-two c = two_allowed
