use Rattle.spx_theory.proofs.Confirming.{close_laws}
use Rattle.spx_theory.proofs.pair_laws.confirmed_links_are_done.Goals as goal

pub returns : goal.returns
returns c = close_laws
