use Rattle.std.proofs.Common.{not, rules}
use Rattle.std.proofs.lemmas.Fn.{filter_same}
use Rattle.ipxnet_server.specs.declared.noted.Noted.{Noted}
use Rattle.ipxnet_server.specs.NotedPlaces.{is_noted_at}
use Rattle.ipxnet_server.proofs.noted.leave_out.Goals as goal

pub returns-clause-items : goal.returns-clause-items
returns-clause-items c =
    let stays = λ (n : Noted). not (is_noted_at c.args.place n) in
    filter_same _ stays _ (λ x b f' k. search rules) _ _ c.retain.ensures.filtered
