use Rattle.std.proofs.Common.{rules}
use Rattle.std.proofs.lemmas.Fn.{filter_same}
use Rattle.ipxnet_server.specs.ServerClients.{forgotten_after, was_heard_within}
use Rattle.ipxnet_server.proofs.clients.leave_out_silent.Goals as goal

pub returns-clause-items : goal.returns-clause-items
returns-clause-items c =
    filter_same _ (was_heard_within forgotten_after c.args.now) _ (λ x b f' k. search rules) _ _ c.retain.ensures.filtered
