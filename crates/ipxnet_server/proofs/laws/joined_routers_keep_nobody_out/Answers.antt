use Rattle.ipxnet_server.proofs.Free.{kept_out_by_nobody}
use Rattle.ipxnet_server.proofs.laws.joined_routers_keep_nobody_out.Goals as goal

pub returns : goal.returns
returns c = kept_out_by_nobody
