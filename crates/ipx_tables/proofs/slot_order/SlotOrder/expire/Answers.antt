use Rattle.std.proofs.Common.{ℕ, Bool, not, refl, arith}
use Rattle.ipx_tables.specs.SlotOrder.{is_young_in}
use Rattle.ipx_tables.proofs.Marking.{marks_real, young_marked}
use Rattle.ipx_tables.proofs.Trays.{moved_slots, numbers_parted, used_real, young_lying}
use Rattle.ipx_tables.proofs.slot_order.SlotOrder.expire.Goals as goal

pub invariant_of-self : goal.invariant_of-self
invariant_of-self g c =
    let slots = c.self.inside.slots.items in
    let used = c.self.inside.used.items in
    let free = c.self.inside.free.items in
    let young : ℕ → Bool = is_young_in g.T.Timed.moment c.args.now slots in
    let kept = rw (c.deref-4.ensures.value) at c.use_young.ensures.items in
    let freed = rw (c.deref-2.ensures.value, c.deref-3.ensures.value) at c.free_old.ensures.items in
    let gone = c.remove_expired.ensures in
    let each = rw c.deref.ensures.value at gone.places in
    let no_later = rw c.deref.ensures.value at gone.no_later in
    rw (kept, freed) (
      (moved_slots slots used free _ _ c.self.invariant.0 _ _ slots _ _ (numbers_parted young (λ n. not (young n)) (λ n. refl) used free) refl (omega (arith, c.use_young.ensures.capacity)) (omega (arith, c.free_old.ensures.capacity))),
      young_marked g.T.Timed.moment slots used c.self.inside.marks.items _ c.self.invariant.1 c.args.now c.remove_expired.new.marks.items _ each gone.by_time no_later (omega (arith, gone.capacity)),
    )

pub returns-clause-items : goal.returns-clause-items
returns-clause-items g c =
    let slots = c.self.inside.slots.items in
    let used = c.self.inside.used.items in
    let kept = rw (c.deref-4.ensures.value) at c.use_young.ensures.items in
    rw (kept, ← c.self.view_is) (young_lying g.T.Timed.moment c.args.now slots used (used_real slots used c.self.inside.free.items _ _ c.self.invariant.0))

pub remove_expired-requires-clause-real : goal.remove_expired-requires-clause-real
remove_expired-requires-clause-real g c =
    let slots = c.self.inside.slots.items in
    let used = c.self.inside.used.items in
    rw c.deref.ensures.value (marks_real g.T.Timed.moment slots used c.self.inside.marks.items _ c.self.invariant.1 (used_real slots used c.self.inside.free.items _ _ c.self.invariant.0))
