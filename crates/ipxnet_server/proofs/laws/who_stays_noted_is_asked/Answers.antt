use Rattle.ipxnet_server.proofs.Asked.{asked}
use Rattle.ipxnet_server.proofs.laws.who_stays_noted_is_asked.Goals as goal

pub returns : goal.returns
returns c = asked
