use Rattle.theory_processes.proofs.RouterTurning.{faults, turns}
use Rattle.theory_processes.proofs.routers.site_turns_are_calls.Goals as goal

pub returns-clause-turns : goal.returns-clause-turns
returns-clause-turns c = turns

pub returns-clause-faults : goal.returns-clause-faults
returns-clause-faults c = faults
