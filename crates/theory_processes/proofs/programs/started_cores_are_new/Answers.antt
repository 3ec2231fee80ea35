use Rattle.theory_processes.proofs.Starting.{started}
use Rattle.theory_processes.proofs.programs.started_cores_are_new.Goals as goal

pub returns : goal.returns
returns g c = started
