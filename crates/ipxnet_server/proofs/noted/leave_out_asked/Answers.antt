use Rattle.std.proofs.Common.{rules}
use Rattle.std.proofs.lemmas.Fn.{filter_same}
use Rattle.ipxnet_server.specs.NotedPlaces.{is_to_be_asked}
use Rattle.ipxnet_server.proofs.noted.leave_out_asked.Goals as goal

pub returns-clause-items : goal.returns-clause-items
returns-clause-items c =
    filter_same _ (is_to_be_asked c.args.pinged) _ (λ x b f' k. search rules) _ _ c.retain.ensures.filtered
