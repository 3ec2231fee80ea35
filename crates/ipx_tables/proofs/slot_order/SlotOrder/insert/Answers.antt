use Rattle.std.proofs.Common.{◌≡◌, ℕ, ◌++◌, ◌∷◌, [], true, is_ok, refl, length, ap, ◌∙◌, arith}
use Rattle.std.specs.Option.{option_to_list}
use Rattle.std.proofs.lemmas.Grind.{common_steps}
use Rattle.std.proofs.lemmas.List.{length-set}
use Rattle.ipx_tables.proofs.Marking.{insert_marked, many_marks}
use Rattle.ipx_tables.proofs.Trays.{inserted_lying, last_real, last_unused, moved_slots, number_used, used_real}
use Rattle.ipx_tables.proofs.slot_order.SlotOrder.insert.Goals as goal

pub invariant_of-self : goal.invariant_of-self
invariant_of-self g c =
    let slots = c.self.inside.slots.items in
    let used = c.self.inside.used.items in
    let free = c.self.inside.free.items in
    let left = c.pop.new.self.items in
    let number : ℕ = c.in-Some.number in
    let is : free ≡ left ++ number ∷ [] = c.pop.ensures.items ∙ ap (λ r. left ++ option_to_list r) c.in-Some.is in
    let ok : is_ok c.insert-put.result ≡ true = grind (arith, common_steps) in
    let items = rw ok at c.insert-put.ensures.items in
    let there = last_real slots used free _ _ c.self.invariant.0 left number is in
    let unused = last_unused slots used free _ _ c.self.invariant.0 left number is in
    rw items (
      moved_slots slots used free _ _ c.self.invariant.0 _ _ _ _ _ (number_used used free left c.args.at number is) (length-set slots number c.args.item) c.insert-put.ensures.capacity (omega (arith, c.pop.ensures.capacity)),
      insert_marked g.T.Timed.moment slots used c.self.inside.marks.items _ c.self.invariant.1 c.args.at number c.put_mark.new.marks.items _ c.args.item _ there unused refl c.moment.ensures c.put_mark.ensures.put c.put_mark.ensures.by_time c.put_mark.ensures.capacity,
    )

pub returns-in-Some-clause-items : goal.returns-in-Some-clause-items
returns-in-Some-clause-items g c =
    let slots = c.self.inside.slots.items in
    let used = c.self.inside.used.items in
    let free = c.self.inside.free.items in
    let left = c.pop.new.self.items in
    let number : ℕ = c.in-Some.number in
    let is : free ≡ left ++ number ∷ [] = c.pop.ensures.items ∙ ap (λ r. left ++ option_to_list r) c.in-Some.is in
    let ok : is_ok c.insert-put.result ≡ true = grind (arith, common_steps) in
    let items = rw ok at c.insert-put.ensures.items in
    let real = used_real slots used free _ _ c.self.invariant.0 in
    rw (items, ← c.self.view_is) (inserted_lying slots used real number c.args.item (last_real slots used free _ _ c.self.invariant.0 left number is) c.args.at (last_unused slots used free _ _ c.self.invariant.0 left number is))

pub put_mark-requires-clause-room : goal.put_mark-requires-clause-room
put_mark-requires-clause-room g c =
    let many = many_marks g.T.Timed.moment c.self.inside.slots.items c.self.inside.used.items c.self.inside.marks.items _ c.self.invariant.1 in
    grind (arith, common_steps, many)

pub index_mut-requires : goal.index_mut-requires
index_mut-requires g c =
    let slots = c.self.inside.slots.items in
    let used = c.self.inside.used.items in
    let free = c.self.inside.free.items in
    let left = c.pop.new.self.items in
    let number : ℕ = c.in-Some.number in
    let is : free ≡ left ++ number ∷ [] = c.pop.ensures.items ∙ ap (λ r. left ++ option_to_list r) c.in-Some.is in
    omega (arith, c.self.inside.slots.ok.0, last_real slots used free _ _ c.self.invariant.0 left number is)
