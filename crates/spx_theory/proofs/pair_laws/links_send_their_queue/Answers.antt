use Rattle.spx_theory.proofs.Queueing.{queue_laws}
use Rattle.spx_theory.proofs.pair_laws.links_send_their_queue.Goals as goal

pub returns : goal.returns
returns c = queue_laws
