use Rattle.theory_processes.proofs.HostSending.{sends}
use Rattle.theory_processes.proofs.programs.send.Goals as goal

pub returns : goal.returns
returns g c = λ ok. let it = c.do_send.ensures.sent ok in (it.0, it.1, it.2, it.3, it.4, it.5, sends c.calls_keep_names.ensures it.1 _ _ _ it.4.2.network.2.2.1 it.6 it.7, c.do_send.ensures.all ok)
