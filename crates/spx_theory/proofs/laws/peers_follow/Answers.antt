use Rattle.spx_theory.proofs.TheClose.{peers_follow}
use Rattle.spx_theory.proofs.laws.peers_follow.Goals as goal

pub returns : goal.returns
returns c = λ s reached. peers_follow c.laws_below.ensures s reached
