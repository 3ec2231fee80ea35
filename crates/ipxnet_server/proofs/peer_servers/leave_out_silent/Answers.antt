use Rattle.std.proofs.Common.{rules}
use Rattle.std.proofs.lemmas.Fn.{filter_same}
use Rattle.ipxnet_server.specs.PeerServers.{was_remote_heard}
use Rattle.ipxnet_server.proofs.peer_servers.leave_out_silent.Goals as goal

pub returns-clause-items : goal.returns-clause-items
returns-clause-items c =
    filter_same _ (was_remote_heard c.args.now) _ (λ x b f' k. search rules) _ _ c.retain.ensures.filtered
