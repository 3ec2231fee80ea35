use Rattle.ipx_tables.proofs.Marking.{no_marks}
use Rattle.ipx_tables.proofs.Trays.{no_slots}
use Rattle.ipx_tables.proofs.slot_order.SlotOrder.new.Goals as goal

pub invariant_of-result : goal.invariant_of-result
invariant_of-result g c = (
  no_slots c.new.result.items c.new-2.result.items c.new-3.result.items _ _ c.new.ensures.items c.new-2.ensures.items c.new-3.ensures.items,
  no_marks g.T.Timed.moment c.new.result.items c.new-2.result.items c.new-4.result.items _ c.new.ensures.items c.new-2.ensures.items c.new-4.ensures.items,
)
