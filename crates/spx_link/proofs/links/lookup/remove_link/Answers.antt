use Rattle.std.proofs.Common.{not, ◌==◌, rules}
use Rattle.std.proofs.lemmas.Fn.{filter_same}
use Rattle.spx_link.specs.LinkView.{LinkView}
use Rattle.spx_link.proofs.links.lookup.remove_link.Goals as goal

pub returns : goal.returns
returns c =
    let stays = λ (l : LinkView). not (l.own == c.args.id) in
    filter_same _ stays _ (λ x b f' k. search rules) _ _ c.retain.ensures.filtered
