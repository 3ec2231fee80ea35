use Rattle.theory_processes.proofs.HostTurning.{faults, turns}
use Rattle.theory_processes.proofs.hosts.paced_turns_are_calls.Goals as goal

pub returns-clause-turns : goal.returns-clause-turns
returns-clause-turns c = turns

pub returns-clause-faults : goal.returns-clause-faults
returns-clause-faults c = faults
