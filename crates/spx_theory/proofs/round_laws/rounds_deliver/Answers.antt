use Rattle.spx_theory.proofs.Turning as turning
use Rattle.spx_theory.proofs.round_laws.rounds_deliver.Goals as goal

pub returns : goal.returns
returns c = turning.rounds_deliver c.link_laws.ensures
