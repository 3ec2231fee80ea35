use Rattle.ipxnet_server.proofs.Showed.{showed}
use Rattle.ipxnet_server.proofs.laws.clients_showed_their_nodes.Goals as goal

pub returns : goal.returns
returns c = showed
