use Rattle.std.proofs.Common.{◌∙◌, ◌++◌, ◌∷◌, [], List, ap}
use Rattle.spx_link.specs.declared.unit.Unit.{Unit}
use Rattle.spx_messages.specs.Cut.{unit_with}
use Rattle.spx_messages.proofs.Filled.{whole_is}
use Rattle.spx_messages.proofs.cutting.push_unit.Goals as goal

pub returns : goal.returns
returns c =
    let before = c.args.units.now.items in
    c.push_reserved.ensures.items
    ∙ ap (λ (us : List Unit). us ++ unit_with c.args.stream c.args.last c.from_array_in.result.items ∷ []) c.reserve.ensures.items
    ∙ ap (λ xs. before ++ unit_with c.args.stream c.args.last xs ∷ []) c.from_array_in.ensures.items
    ∙ ap (λ xs. before ++ unit_with c.args.stream c.args.last xs ∷ []) (whole_is c.args.bytes.now c.in-Some.whole.now c.in-Some.ensures.cases.0 c.requires)
