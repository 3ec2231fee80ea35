use Rattle.theory_processes.proofs.Letting.{gives_seldom}
use Rattle.theory_processes.proofs.hosts.paced_cores_give_seldom.Goals as goal

pub returns : goal.returns
returns c = gives_seldom c.units_are_capped.ensures
