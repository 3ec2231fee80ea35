use Rattle.ipxnet_server.proofs.PingTimes.{two_asks}
use Rattle.ipxnet_server.proofs.laws.asks_are_two.Goals as goal

pub returns : goal.returns
returns c = two_asks
