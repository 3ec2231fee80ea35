use Rattle.spx_messages.proofs.Joins.{none_overlong}
use Rattle.spx_messages.proofs.unit_laws.no_message_is_overlong.Goals as goal

pub returns : goal.returns
returns c = none_overlong
