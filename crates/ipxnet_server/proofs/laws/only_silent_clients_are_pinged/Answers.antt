use Rattle.ipxnet_server.proofs.PingTimes.{silent_pinged}
use Rattle.ipxnet_server.proofs.laws.only_silent_clients_are_pinged.Goals as goal

pub returns : goal.returns
returns c = silent_pinged
