use Rattle.std.proofs.Common.{◌≡◌, List, [], ◌∷◌, ◌++◌, ap, ◌∙◌}
use Rattle.spx_link.specs.declared.unit.Unit.{Unit}
use Rattle.spx_link.specs.declared.stamped.Stamp.{Stamp}
use Rattle.spx_link.proofs.Pairing.{view_more}
use Rattle.spx_link.proofs.stamped.Sequence.push.Goals as goal

pub returns-clause-ok : goal.returns-clause-ok
returns-clause-ok c =
    let us = c.self.inside.units.items in
    let ss = c.self.inside.stamps.items in
    let q = c.args.queued in
    let stamp : Stamp = record { at = q.at; count = q.count } in
    let units = c.push_back_reserved-2.ensures.items ∙ ap (λ (xs : List Unit). xs ++ q.unit ∷ []) c.reserve-2.ensures.items in
    let stamps = c.push_back_reserved.ensures.items ∙ ap (λ (xs : List Stamp). xs ++ stamp ∷ []) c.reserve.ensures.items in
    view_more us c.push_back_reserved-2.new.self.items (q.unit ∷ []) ss c.push_back_reserved.new.self.items (stamp ∷ []) c.args.self.now c.self.view_is c.self.invariant units stamps
