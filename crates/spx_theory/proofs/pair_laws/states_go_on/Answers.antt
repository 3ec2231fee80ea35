use Rattle.spx_theory.proofs.States.{state_laws}
use Rattle.spx_theory.proofs.pair_laws.states_go_on.Goals as goal

pub returns : goal.returns
returns c = state_laws
