use Rattle.theory_processes.proofs.HostTurning.{give, hear, lose}
use Rattle.theory_processes.proofs.hosts.paced_calls_are_host_calls.Goals as goal

pub returns-clause-hears : goal.returns-clause-hears
returns-clause-hears c = hear

pub returns-clause-loses : goal.returns-clause-loses
returns-clause-loses c = lose

pub returns-clause-gives : goal.returns-clause-gives
returns-clause-gives c = give
