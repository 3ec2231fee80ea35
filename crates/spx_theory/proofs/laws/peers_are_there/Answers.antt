use Rattle.spx_theory.proofs.Addresses.{peers_are_there}
use Rattle.spx_theory.proofs.laws.peers_are_there.Goals as goal

pub returns : goal.returns
returns c = λ s reached. peers_are_there c.laws_below.ensures s reached
