use Rattle.theory_processes.proofs.Spacing.{are_spaced}
use Rattle.theory_processes.proofs.hosts.paced_hosts_are_spaced.Goals as goal

pub returns : goal.returns
returns c = are_spaced c.paced_cores_give_seldom.ensures
