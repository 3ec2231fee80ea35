use Rattle.theory_processes.proofs.Rounding.{a_round, a_run}
use Rattle.theory_processes.proofs.programs.rounds_are_calls.Goals as goal

pub returns-clause-round : goal.returns-clause-round
returns-clause-round g c = a_round

pub returns-clause-run : goal.returns-clause-run
returns-clause-run g c = a_run
