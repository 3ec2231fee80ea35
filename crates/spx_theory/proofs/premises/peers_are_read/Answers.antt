use Rattle.spx_theory.proofs.PremisesRead.{peers_are_read}
use Rattle.spx_theory.proofs.premises.peers_are_read.Goals as goal

pub returns : goal.returns
returns c = λ s reached. peers_are_read c.laws_below.ensures c.peer_is_found.ensures s reached
