use Rattle.spx_theory.proofs.Lasting.{lasting_laws}
use Rattle.spx_theory.proofs.pair_laws.calls_keep_what_lasts.Goals as goal

pub returns : goal.returns
returns c = lasting_laws
