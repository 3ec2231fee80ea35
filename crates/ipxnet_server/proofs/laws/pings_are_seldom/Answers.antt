use Rattle.ipxnet_server.proofs.PingTimes.{few_pings}
use Rattle.ipxnet_server.proofs.laws.pings_are_seldom.Goals as goal

pub returns : goal.returns
returns c = few_pings
