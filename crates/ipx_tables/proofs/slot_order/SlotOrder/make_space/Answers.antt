use Rattle.std.specs.Vec.{vec_capacity}
use Rattle.std.specs.VecDeque.{deque_capacity}
use Rattle.std.proofs.Common.{◌≡◌, ◌≤◌, ◌+◌, [], true, is_ok, length, arith}
use Rattle.std.proofs.lemmas.Grind.{common_steps}
use Rattle.std.proofs.lemmas.List.{nil_from_length}
use Rattle.ipx_tables.proofs.Marking.{longer_marked, many_marks}
use Rattle.ipx_tables.proofs.Trays.{lying_longer, slot_made, used_real}
use Rattle.ipx_tables.proofs.slot_order.SlotOrder.make_space.Goals as goal

pub invariant_of-self-2 : goal.invariant_of-self-2
invariant_of-self-2 g c =
    let slots = c.self.inside.slots.items in
    let used = c.self.inside.used.items in
    let free = c.self.inside.free.items in
    let ok : is_ok c.push.result ≡ true = grind (arith, common_steps) in
    let pushed = rw ok at c.push.ensures.items in
    let none : free ≡ [] = nil_from_length free (grind (arith, common_steps)) in
    let number : c.in-Ok.number ≡ length slots = grind (arith, common_steps) in
    let used_space : length slots + 1 ≤ vec_capacity c.reserve.new.self = grind (arith, common_steps) in
    let free_space : length slots + 1 ≤ vec_capacity c.push_reserved.new.self = grind (arith, common_steps) in
    let many = many_marks g.T.Timed.moment slots used c.self.inside.marks.items _ c.self.invariant.1 in
    let marks_room : length slots + 1 ≤ deque_capacity c.reserve-3.new.self = grind (arith, common_steps, many) in
    rw (pushed, c.reserve.ensures.items, c.push_reserved.ensures.items, c.reserve-2.ensures.items, c.reserve-3.ensures.items) (
      slot_made slots used free _ _ c.self.invariant.0 none c.args.item c.in-Ok.number _ _ number used_space free_space,
      longer_marked g.T.Timed.moment slots used c.self.inside.marks.items _ c.self.invariant.1 (used_real slots used free _ _ c.self.invariant.0) c.args.item _ marks_room,
    )

pub returns-clause-items : goal.returns-clause-items
returns-clause-items g c =
    let slots = c.self.inside.slots.items in
    let used = c.self.inside.used.items in
    let ok : is_ok c.push.result ≡ true = grind (arith, common_steps) in
    let pushed = rw ok at c.push.ensures.items in
    rw (pushed, c.reserve.ensures.items, ← c.self.view_is) (lying_longer slots used c.args.item (used_real slots used c.self.inside.free.items _ _ c.self.invariant.0))
