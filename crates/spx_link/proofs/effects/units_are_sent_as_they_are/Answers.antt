use Rattle.spx_link.proofs.Carrying.{sent_as_it_is, end_sent_as_it_is}
use Rattle.spx_link.proofs.effects.units_are_sent_as_they_are.Goals as goal

pub returns : goal.returns
returns c = record { offered = sent_as_it_is; end = end_sent_as_it_is }
