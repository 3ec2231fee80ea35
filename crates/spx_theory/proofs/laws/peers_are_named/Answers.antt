use Rattle.spx_theory.proofs.Named.{peers_are_named}
use Rattle.spx_theory.proofs.laws.peers_are_named.Goals as goal

pub returns : goal.returns
returns c = λ s reached. peers_are_named c.laws_below.ensures s reached
