use Rattle.std.proofs.Common.{◌≡◌, ◌∙◌, ◌-◌, ◌+◌, ◌++◌, ◌∷◌, [], List, Ok, subst, arith, ap, sym, refl, length, vec_len}
use Rattle.spx_link.specs.declared.unit.Unit.{Unit}
use Rattle.spx_messages.specs.Cut.{unit_with}
use Rattle.spx_messages.proofs.Filled.{at_end, set_at_end}
use Rattle.spx_messages.proofs.cutting.push_shorter.Goals as goal

pub returns-in-Some : goal.returns-in-Some
returns-in-Some c =
    let before = c.args.units.now.items in
    let empty : Unit = unit_with c.args.stream c.args.last [] in
    let place : vec_len c.push_reserved.new.self - 1 ≡ length c.args.units.now.items = omega (arith, ap length c.push_reserved.ensures.items) in
    let pushed : c.push_reserved.new.self.items ≡ before ++ empty ∷ [] =
    c.push_reserved.ensures.items
    ∙ ap (λ (us : List Unit). us ++ unit_with c.args.stream c.args.last c.new.result.items ∷ []) c.reserve.ensures.items
    ∙ ap (λ xs. before ++ unit_with c.args.stream c.args.last xs ∷ []) c.new.ensures in
    let found : c.in-Some.unit.now ≡ empty = c.in-Some.ensures.value ∙ at_end before c.push_reserved.new.self.items empty c.in-Some.unit.now (vec_len c.push_reserved.new.self - 1) place pushed in
    let filled : c.try_extend_from_slice.new.self.items ≡ c.args.bytes.now =
    (rw (c.unwrap.ensures) at c.try_extend_from_slice.ensures.ok)
    ∙ ap (λ (u : Unit). u.body.items ++ c.args.bytes.now) found in
    rw (found, filled)
    (set_at_end before c.push_reserved.new.self.items empty (unit_with c.args.stream c.args.last c.args.bytes.now) (vec_len c.push_reserved.new.self - 1) place pushed)
