use Rattle.spx_theory.proofs.HandedOut.{absent_hands_out_nothing, hands_out_what_it_took, holds_what_is_left}
use Rattle.spx_theory.proofs.laws.hands_out_what_it_took.Goals as goal

pub returns-clause-handed : goal.returns-clause-handed
returns-clause-handed c = hands_out_what_it_took

pub returns-clause-left : goal.returns-clause-left
returns-clause-left c = holds_what_is_left

pub returns-clause-absent : goal.returns-clause-absent
returns-clause-absent c = absent_hands_out_nothing
