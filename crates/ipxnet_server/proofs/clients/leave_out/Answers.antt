use Rattle.std.proofs.Common.{not, rules}
use Rattle.std.proofs.lemmas.Fn.{filter_same}
use Rattle.ipxnet_server.specs.declared.clients.Client.{Client}
use Rattle.ipxnet_server.specs.ServerClients.{is_client_at}
use Rattle.ipxnet_server.proofs.clients.leave_out.Goals as goal

pub returns-clause-items : goal.returns-clause-items
returns-clause-items c =
    let stays = λ (k : Client). not (is_client_at c.args.place k) in
    filter_same _ stays _ (λ x b f' k. search rules) _ _ c.retain.ensures.filtered
