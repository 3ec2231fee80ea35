use Rattle.spx_theory.proofs.Allowances.{allowance_laws}
use Rattle.spx_theory.proofs.pair_laws.packets_allow_what_was_taken.Goals as goal

pub returns : goal.returns
returns c = allowance_laws
