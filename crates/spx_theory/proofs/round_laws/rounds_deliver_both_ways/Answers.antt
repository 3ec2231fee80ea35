use Rattle.spx_theory.proofs.Both as both
use Rattle.spx_theory.proofs.round_laws.rounds_deliver_both_ways.Goals as goal

pub returns : goal.returns
returns c = both.rounds_deliver_both_ways c.link_laws.ensures
