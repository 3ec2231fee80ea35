use Rattle.ipxnet_server.proofs.PingTimes.{late_asks}
use Rattle.ipxnet_server.proofs.laws.asks_are_late.Goals as goal

pub returns : goal.returns
returns c = late_asks
