use Rattle.ipxnet_server.proofs.Apart.{apart}
use Rattle.ipxnet_server.proofs.laws.restart_asks_are_apart.Goals as goal

pub returns : goal.returns
returns c = apart
