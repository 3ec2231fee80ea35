use Rattle.ipxnet_server.proofs.Learned.{nothing_given_shows}
use Rattle.ipxnet_server.proofs.laws.no_given_packet_shows_a_client.Goals as goal

pub returns : goal.returns
returns c = nothing_given_shows
