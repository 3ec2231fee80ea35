use Rattle.spx_theory.proofs.Headline.{peers_are_in_step}
use Rattle.spx_theory.proofs.laws.peers_are_in_step.Goals as goal

pub returns : goal.returns
returns c = λ s reached. peers_are_in_step c.laws_below.ensures s reached
