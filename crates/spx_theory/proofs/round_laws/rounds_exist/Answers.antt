use Rattle.spx_theory.proofs.Alone as alone
use Rattle.spx_theory.proofs.round_laws.rounds_exist.Goals as goal

pub returns : goal.returns
returns c = λ a b moments. alone.rounds_exist a b moments
