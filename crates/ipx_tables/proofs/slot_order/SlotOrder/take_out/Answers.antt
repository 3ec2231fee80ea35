use Rattle.std.proofs.Common.{◌≡◌, ℕ, ◌<◌, length, get_or, refl, sym, ◌∙◌, arith}
use Rattle.std.proofs.lemmas.List.{get_or_default}
use Rattle.ipx_tables.proofs.Marking.{own_places, unmarked}
use Rattle.ipx_tables.proofs.Trays.{many_lying, moved_slots, number_freed, number_real, read_lying, removed_lying, used_distinct, used_once, used_real}
use Rattle.ipx_tables.proofs.slot_order.SlotOrder.take_out.Goals as goal

pub index-requires : goal.index-requires
index-requires g c =
    let slots = c.self.inside.slots.items in
    let used = c.self.inside.used.items in
    let real = used_real slots used c.self.inside.free.items _ _ c.self.invariant.0 in
    let long = rw (← c.self.view_is) at c.requires in
    let within : c.args.at < length used = omega (arith, long, many_lying slots used real) in
    omega (arith, c.self.inside.slots.ok.0, number_real slots used real c.args.at c.remove-number.result within c.remove-number.ensures.value)

pub invariant_of-self : goal.invariant_of-self
invariant_of-self g c =
    let slots = c.self.inside.slots.items in
    let used = c.self.inside.used.items in
    let free = c.self.inside.free.items in
    let real = used_real slots used free _ _ c.self.invariant.0 in
    let long = rw (← c.self.view_is) at c.requires in
    let within : c.args.at < length used = omega (arith, long, many_lying slots used real) in
    let number : ℕ = c.remove-number.result in
    let is : (e : ℕ) → get_or used c.args.at e ≡ number = λ e. get_or_default used c.args.at e number within ∙ sym c.remove-number.ensures.value in
    rw (c.remove-number.ensures.items, c.push_reserved.ensures.items, c.remove_expiry.ensures.items) (
      moved_slots slots used free _ _ c.self.invariant.0 _ _ slots _ _ (number_freed used free c.args.at c.remove-number.result within c.remove-number.ensures.value) refl (omega (arith, c.remove-number.ensures.capacity)) (omega (arith, c.push_reserved.ensures.capacity)),
      unmarked g.T.Timed.moment slots used c.self.inside.marks.items _ c.self.invariant.1 c.args.at number within is (λ j e lt ne same. used_once slots used free _ _ c.self.invariant.0 c.args.at j e within lt ne (same ∙ sym (is e))) _ (omega (arith, c.remove_expiry.ensures.capacity)),
    )

pub returns-clause-item : goal.returns-clause-item
returns-clause-item g c =
    let slots = c.self.inside.slots.items in
    let used = c.self.inside.used.items in
    let real = used_real slots used c.self.inside.free.items _ _ c.self.invariant.0 in
    let long = rw (← c.self.view_is) at c.requires in
    let within : c.args.at < length used = omega (arith, long, many_lying slots used real) in
    rw (← c.self.view_is) (read_lying slots used real c.args.at c.remove-number.result c.index.result.now within c.remove-number.ensures.value c.index.ensures)

pub returns-clause-items : goal.returns-clause-items
returns-clause-items g c =
    rw (c.remove-number.ensures.items, ← c.self.view_is) (removed_lying c.self.inside.slots.items c.self.inside.used.items c.args.at)

pub remove_expiry-requires : goal.remove_expiry-requires
remove_expiry-requires g c =
    own_places g.T.Timed.moment c.self.inside.slots.items c.self.inside.used.items c.self.inside.marks.items _ c.self.invariant.1 (used_distinct c.self.inside.slots.items c.self.inside.used.items c.self.inside.free.items _ _ c.self.invariant.0)
