use Rattle.spx_link.proofs.MachineSound.{reached}
use Rattle.spx_link.proofs.machine.within.Goals as goal

pub returns-clause-one : goal.returns-clause-one
returns-clause-one c = λ steps a b m run. (reached steps a b m run).within

pub returns-clause-two : goal.returns-clause-two
returns-clause-two c = λ steps a b m run. (reached steps a b m run).peer_within
