use Rattle.spx_theory.proofs.Naming.{name_laws}
use Rattle.spx_theory.proofs.pair_laws.calls_keep_names.Goals as goal

pub returns : goal.returns
returns c = name_laws
