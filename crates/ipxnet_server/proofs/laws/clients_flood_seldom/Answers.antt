use Rattle.ipxnet_server.proofs.FloodTimes.{seldom}
use Rattle.ipxnet_server.proofs.laws.clients_flood_seldom.Goals as goal

pub returns : goal.returns
returns c = seldom
