use Rattle.spx_theory.proofs.Alone as alone
use Rattle.spx_theory.proofs.round_laws.round_is_one.Goals as goal

pub returns : goal.returns
returns c = λ a b now. alone.round_is_one a b now
