use Rattle.std.proofs.Common.{◌++◌, ◌∷◌, []}
use Rattle.spx_link.specs.Offer.{the_end}
use Rattle.spx_messages.specs.Joining.{units_of_messages}
use Rattle.spx_messages.proofs.Joins.{all_join, all_join_ended, first_messages}
use Rattle.spx_messages.proofs.unit_laws.first_units_join_to_first_messages.Goals as goal

pub returns-clause-units : goal.returns-clause-units
returns-clause-units c = λ ms count all. first_messages (units_of_messages ms) count ms (all_join ms all)

pub returns-clause-ended : goal.returns-clause-ended
returns-clause-ended c = λ ms count all. first_messages (units_of_messages ms ++ the_end ∷ []) count ms (all_join_ended ms all)
