use Rattle.spx_link.proofs.MachineFresh.{one_tells, two_tells}
use Rattle.spx_link.proofs.machine.fresh_packets.Goals as goal

pub returns-clause-one : goal.returns-clause-one
returns-clause-one c = one_tells

pub returns-clause-two : goal.returns-clause-two
returns-clause-two c = two_tells
