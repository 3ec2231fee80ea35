use Rattle.std.proofs.Common.{not, rules}
use Rattle.std.proofs.lemmas.Fn.{filter_same}
use Rattle.ipxnet_server.specs.declared.peer_servers.RemoteClient.{RemoteClient}
use Rattle.ipxnet_server.specs.PeerServers.{has_remote_node}
use Rattle.ipxnet_server.proofs.peer_servers.leave_out.Goals as goal

pub returns-clause-items : goal.returns-clause-items
returns-clause-items c =
    let stays = λ (f : RemoteClient). not (has_remote_node c.args.node f) in
    filter_same _ stays _ (λ x b f' k. search rules) _ _ c.retain.ensures.filtered
