use Rattle.spx_messages.proofs.Grouping.{joined_so, only_one}
use Rattle.spx_messages.proofs.unit_laws.joined_is_the_one_value.Goals as goal

pub returns-clause-meets : goal.returns-clause-meets
returns-clause-meets c = joined_so

pub returns-clause-only : goal.returns-clause-only
returns-clause-only c = only_one
