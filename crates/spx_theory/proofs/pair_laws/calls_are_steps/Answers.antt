use Rattle.spx_theory.proofs.Calling.{step_laws}
use Rattle.spx_theory.proofs.pair_laws.calls_are_steps.Goals as goal

pub returns : goal.returns
returns c = step_laws
