use Rattle.std.proofs.Common.{◌≡◌, ℕ, ◌<◌, ◌++◌, length, get_or, refl, sym, ap, ◌∙◌, arith}
use Rattle.std.proofs.lemmas.List.{get_or_default, length-set}
use Rattle.std.proofs.lemmas.List.Sorted.{IsPermutation-refl}
use Rattle.ipx_tables.proofs.Marking.{many_others, others_by_moment, own_places, set_marked}
use Rattle.ipx_tables.proofs.Trays.{many_lying, moved_slots, number_real, set_lying, used_distinct, used_once, used_real}
use Rattle.ipx_tables.proofs.slot_order.SlotOrder.set.Goals as goal

pub returns-then-moment-before-clause-items : goal.returns-then-moment-before-clause-items
returns-then-moment-before-clause-items g c =
    let slots = c.self.inside.slots.items in
    let used = c.self.inside.used.items in
    let free = c.self.inside.free.items in
    let number : ℕ = c.index-number.result.now in
    let real = used_real slots used free _ _ c.self.invariant.0 in
    let long = rw (← c.self.view_is) at c.requires in
    let within : c.args.at < length used = omega (arith, long, many_lying slots used real) in
    let is : (e : ℕ) → get_or used c.args.at e ≡ number = λ e. get_or_default used c.args.at e number within ∙ sym c.index-number.ensures in
    rw (← c.self.view_is) (set_lying slots used real number c.args.item (number_real slots used real c.args.at number within c.index-number.ensures) c.args.at within is (λ j e lt ne same. used_once slots used free _ _ c.self.invariant.0 c.args.at j e within lt ne (same ∙ sym (is e))))

pub returns-else-moment-before-clause-items : goal.returns-else-moment-before-clause-items
returns-else-moment-before-clause-items g c =
    let slots = c.self.inside.slots.items in
    let used = c.self.inside.used.items in
    let free = c.self.inside.free.items in
    let number : ℕ = c.index-number.result.now in
    let real = used_real slots used free _ _ c.self.invariant.0 in
    let long = rw (← c.self.view_is) at c.requires in
    let within : c.args.at < length used = omega (arith, long, many_lying slots used real) in
    let is : (e : ℕ) → get_or used c.args.at e ≡ number = λ e. get_or_default used c.args.at e number within ∙ sym c.index-number.ensures in
    rw (← c.self.view_is) (set_lying slots used real number c.args.item (number_real slots used real c.args.at number within c.index-number.ensures) c.args.at within is (λ j e lt ne same. used_once slots used free _ _ c.self.invariant.0 c.args.at j e within lt ne (same ∙ sym (is e))))

pub put_mark-requires-clause-by_time : goal.put_mark-requires-clause-by_time
put_mark-requires-clause-by_time g c =
    let slots = c.self.inside.slots.items in
    let used = c.self.inside.used.items in
    let free = c.self.inside.free.items in
    let marks = c.self.inside.marks.items in
    let number : ℕ = c.index-number.result.now in
    let real = used_real slots used free _ _ c.self.invariant.0 in
    let long = rw (← c.self.view_is) at c.requires in
    let within : c.args.at < length used = omega (arith, long, many_lying slots used real) in
    let is : (e : ℕ) → get_or used c.args.at e ≡ number = λ e. get_or_default used c.args.at e number within ∙ sym c.index-number.ensures in
    let once : (j e : ℕ) → j < length used → (j ≡ c.args.at → ⊥) → get_or used j e ≡ number → ⊥ = λ j e lt ne same. used_once slots used free _ _ c.self.invariant.0 c.args.at j e within lt ne (same ∙ sym (is e)) in
    let there = number_real slots used real c.args.at number within c.index-number.ensures in
    rw c.remove_expiry.ensures.items (others_by_moment g.T.Timed.moment slots used marks _ c.self.invariant.1 c.args.at number within is once)

pub put_mark-requires-clause-room : goal.put_mark-requires-clause-room
put_mark-requires-clause-room g c =
    let slots = c.self.inside.slots.items in
    let used = c.self.inside.used.items in
    let free = c.self.inside.free.items in
    let marks = c.self.inside.marks.items in
    let number : ℕ = c.index-number.result.now in
    let real = used_real slots used free _ _ c.self.invariant.0 in
    let long = rw (← c.self.view_is) at c.requires in
    let within : c.args.at < length used = omega (arith, long, many_lying slots used real) in
    let is : (e : ℕ) → get_or used c.args.at e ≡ number = λ e. get_or_default used c.args.at e number within ∙ sym c.index-number.ensures in
    let once : (j e : ℕ) → j < length used → (j ≡ c.args.at → ⊥) → get_or used j e ≡ number → ⊥ = λ j e lt ne same. used_once slots used free _ _ c.self.invariant.0 c.args.at j e within lt ne (same ∙ sym (is e)) in
    let there = number_real slots used real c.args.at number within c.index-number.ensures in
    omega (arith, c.remove_expiry.ensures.capacity, c.remove_expiry.new.marks.ok.0, ap length c.remove_expiry.ensures.items, many_others g.T.Timed.moment slots used marks _ c.self.invariant.1 c.args.at number within is once, c.self.invariant.1.fits, c.self.invariant.0.all)

pub invariant_of-self : goal.invariant_of-self
invariant_of-self g c =
    let slots = c.self.inside.slots.items in
    let used = c.self.inside.used.items in
    let free = c.self.inside.free.items in
    let marks = c.self.inside.marks.items in
    let number : ℕ = c.index-number.result.now in
    let real = used_real slots used free _ _ c.self.invariant.0 in
    let long = rw (← c.self.view_is) at c.requires in
    let within : c.args.at < length used = omega (arith, long, many_lying slots used real) in
    let is : (e : ℕ) → get_or used c.args.at e ≡ number = λ e. get_or_default used c.args.at e number within ∙ sym c.index-number.ensures in
    let once : (j e : ℕ) → j < length used → (j ≡ c.args.at → ⊥) → get_or used j e ≡ number → ⊥ = λ j e lt ne same. used_once slots used free _ _ c.self.invariant.0 c.args.at j e within lt ne (same ∙ sym (is e)) in
    let there = number_real slots used real c.args.at number within c.index-number.ensures in
    let put = rw c.remove_expiry.ensures.items at c.put_mark.ensures.put in (
      moved_slots slots used free _ _ c.self.invariant.0 used free _ _ _ (IsPermutation-refl (used ++ free)) (length-set slots number c.args.item) (omega arith) (omega arith),
      set_marked g.T.Timed.moment slots used marks _ c.self.invariant.1 c.args.at number within is once c.put_mark.new.marks.items _ c.args.item _ there refl c.moment-moment.ensures put c.put_mark.ensures.by_time (omega (arith, c.remove_expiry.ensures.capacity, c.put_mark.ensures.capacity)),
    )

pub remove_expiry-requires : goal.remove_expiry-requires
remove_expiry-requires g c =
    own_places g.T.Timed.moment c.self.inside.slots.items c.self.inside.used.items c.self.inside.marks.items _ c.self.invariant.1 (used_distinct c.self.inside.slots.items c.self.inside.used.items c.self.inside.free.items _ _ c.self.invariant.0)
