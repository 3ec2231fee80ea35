use Rattle.spx_theory.proofs.PeerFinding.{peer_is_found}
use Rattle.spx_theory.proofs.ends.peer_is_found.Goals as goal

pub returns : goal.returns
returns c = peer_is_found
