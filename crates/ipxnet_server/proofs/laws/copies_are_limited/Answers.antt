use Rattle.ipxnet_server.proofs.CopyTimes.{limited}
use Rattle.ipxnet_server.proofs.laws.copies_are_limited.Goals as goal

pub returns : goal.returns
returns c = limited
