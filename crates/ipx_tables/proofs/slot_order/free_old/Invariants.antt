use Rattle.std.proofs.Common.{◌≡◌, ◌++◌, not, take}
use Rattle.std.specs.List.{filter}
use Rattle.std.specs.Vec.{vec_capacity}
use Rattle.ipx_tables.specs.SlotOrder.{is_young_in}
use Rattle.ipx_tables.proofs.slot_order.free_old.Given as goal

-- of the slots so far, those of expired items are free, and the space stays
abbrev pub invariant-loop-number : goal.invariant-loop-number
invariant-loop-number g l = record {
  items : l.free.items ≡ l.fn.free.items ++ filter (λ n. not (is_young_in g.T.Timed.moment l.now l.slots n)) (take l.number-index l.used);
  room : vec_capacity l.free ≡ vec_capacity l.fn.free;
}
