use Rattle.spx_link.proofs.MachineGrowth.{run_grows}
use Rattle.spx_link.proofs.machine.growth.Goals as goal

pub returns-clause-one : goal.returns-clause-one
returns-clause-one c = λ steps m n run. (run_grows steps m n run).0

pub returns-clause-two : goal.returns-clause-two
returns-clause-two c = λ steps m n run. (run_grows steps m n run).1
