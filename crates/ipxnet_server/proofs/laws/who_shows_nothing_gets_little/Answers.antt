use Rattle.ipxnet_server.proofs.Little.{little}
use Rattle.ipxnet_server.proofs.laws.who_shows_nothing_gets_little.Goals as goal

pub returns : goal.returns
returns c = little
