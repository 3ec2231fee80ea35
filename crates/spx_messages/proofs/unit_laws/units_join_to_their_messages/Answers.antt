use Rattle.spx_messages.proofs.Joins.{all_join, all_join_ended}
use Rattle.spx_messages.proofs.unit_laws.units_join_to_their_messages.Goals as goal

pub returns-clause-all : goal.returns-clause-all
returns-clause-all c = all_join

pub returns-clause-ended : goal.returns-clause-ended
returns-clause-ended c = all_join_ended
