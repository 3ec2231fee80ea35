use Rattle.std.proofs.Common.{◌<◌, length, refl, arith}
use Rattle.std.specs.VecDeque.{deque_capacity}
use Rattle.ipx_tables.proofs.Marking.{at_none, first_earliest, first_real, marks_real, none_first, none_lying, settled_marked}
use Rattle.ipx_tables.proofs.Trays.{used_real}
use Rattle.ipx_tables.proofs.slot_order.SlotOrder.oldest.Goals as goal

pub settle_first-requires-clause-real : goal.settle_first-requires-clause-real
settle_first-requires-clause-real g c =
    let slots = c.self.inside.slots.items in
    let used = c.self.inside.used.items in
    rw c.deref.ensures.value (marks_real g.T.Timed.moment slots used c.self.inside.marks.items _ c.self.invariant.1 (used_real slots used c.self.inside.free.items _ _ c.self.invariant.0))

pub invariant_of-self : goal.invariant_of-self
invariant_of-self g c =
    let slots = c.self.inside.slots.items in
    let used = c.self.inside.used.items in
    let marks = c.self.inside.marks.items in
    let settled = c.settle_first.new.marks.items in
    let no_later = rw c.deref.ensures.value at c.settle_first.ensures.no_later in
    let are = settled_marked g.T.Timed.moment slots used marks _ c.self.invariant.1 settled (deque_capacity c.settle_first.new.marks) c.settle_first.ensures.places c.settle_first.ensures.by_time no_later (omega (arith, c.settle_first.ensures.capacity)) in
    (c.self.invariant.0, are)

pub invariant_of-self-2 : goal.invariant_of-self-2
invariant_of-self-2 g c =
    let slots = c.self.inside.slots.items in
    let used = c.self.inside.used.items in
    let marks = c.self.inside.marks.items in
    let settled = c.settle_first.new.marks.items in
    let no_later = rw c.deref.ensures.value at c.settle_first.ensures.no_later in
    let are = settled_marked g.T.Timed.moment slots used marks _ c.self.invariant.1 settled (deque_capacity c.settle_first.new.marks) c.settle_first.ensures.places c.settle_first.ensures.by_time no_later (omega (arith, c.settle_first.ensures.capacity)) in
    (c.self.invariant.0, are)

pub returns-in_err-mark-clause-none : goal.returns-in_err-mark-clause-none
returns-in_err-mark-clause-none g c =
    let slots = c.self.inside.slots.items in
    let used = c.self.inside.used.items in
    let marks = c.self.inside.marks.items in
    let settled = c.settle_first.new.marks.items in
    let no_later = rw c.deref.ensures.value at c.settle_first.ensures.no_later in
    let are = settled_marked g.T.Timed.moment slots used marks _ c.self.invariant.1 settled (deque_capacity c.settle_first.new.marks) c.settle_first.ensures.places c.settle_first.ensures.by_time no_later (omega (arith, c.settle_first.ensures.capacity)) in
    let none = none_first (length settled) (λ lt. c.in_err-mark.ensures.variant.1 (omega (arith, lt, c.settle_first.new.marks.ok.0))) in
    rw (← c.self.view_is) (at_none c.from_residual.result (none_lying g.T.Timed.moment slots used settled _ are none))

pub index-requires : goal.index-requires
index-requires g c =
    let slots = c.self.inside.slots.items in
    let used = c.self.inside.used.items in
    let marks = c.self.inside.marks.items in
    let settled = c.settle_first.new.marks.items in
    let no_later = rw c.deref.ensures.value at c.settle_first.ensures.no_later in
    let are = settled_marked g.T.Timed.moment slots used marks _ c.self.invariant.1 settled (deque_capacity c.settle_first.new.marks) c.settle_first.ensures.places c.settle_first.ensures.by_time no_later (omega (arith, c.settle_first.ensures.capacity)) in
    let some : 0 < length settled = omega (arith, c.in_ok-mark.ensures.variant.0 refl, c.settle_first.new.marks.ok.0) in
    omega (arith, c.self.inside.slots.ok.0, first_real g.T.Timed.moment slots used settled _ are c.in_ok-mark.mark.now some c.in_ok-mark.ensures.lookup (used_real slots used c.self.inside.free.items _ _ c.self.invariant.0))

pub returns-clause-oldest : goal.returns-clause-oldest
returns-clause-oldest g c =
    let slots = c.self.inside.slots.items in
    let used = c.self.inside.used.items in
    let marks = c.self.inside.marks.items in
    let settled = c.settle_first.new.marks.items in
    let no_later = rw c.deref.ensures.value at c.settle_first.ensures.no_later in
    let are = settled_marked g.T.Timed.moment slots used marks _ c.self.invariant.1 settled (deque_capacity c.settle_first.new.marks) c.settle_first.ensures.places c.settle_first.ensures.by_time no_later (omega (arith, c.settle_first.ensures.capacity)) in
    let some : 0 < length settled = omega (arith, c.in_ok-mark.ensures.variant.0 refl, c.settle_first.new.marks.ok.0) in
    let first = c.in_ok-mark.mark.now in
    let right = rw c.deref.ensures.value at c.settle_first.ensures.right in
    rw (← c.self.view_is) (first_earliest g.T.Timed.moment slots used settled _ are first some c.in_ok-mark.ensures.lookup (used_real slots used c.self.inside.free.items _ _ c.self.invariant.0) (right first some) c.index.result.now c.index.ensures)
