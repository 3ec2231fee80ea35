use Rattle.std.proofs.Common.{not, rules}
use Rattle.std.proofs.lemmas.Fn.{filter_same}
use Rattle.ipx_ethernet.specs.declared.mac_table.Station.{Station}
use Rattle.ipx_ethernet.specs.SwitchEnds.{is_at}
use Rattle.ipx_ethernet.proofs.mac_table.forget.Goals as goal

pub returns-clause-items : goal.returns-clause-items
returns-clause-items c =
    let stays = λ (k : Station). not (is_at c.args.node k) in
    filter_same _ stays _ (λ x b f' k. search rules) _ _ c.retain.ensures.filtered
