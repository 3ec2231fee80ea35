use Rattle.std.proofs.Common.{ℕ, Bool, not, take, length, ap, length-append, arith}
use Rattle.std.specs.List.{filter}
use Rattle.std.proofs.lemmas.List.{length-take}
use Rattle.ipx_tables.specs.SlotOrder.{is_young_in}
use Rattle.ipx_tables.proofs.Lists.{filter_short}
use Rattle.ipx_tables.proofs.slot_order.free_old.Goals as goal

pub push_reserved-requires : goal.push_reserved-requires
push_reserved-requires g c =
    let i = c.loop-number.number-index in
    let front = take i c.args.used.now in
    let old : ℕ → Bool = λ n. not (is_young_in g.T.Timed.moment c.args.now c.args.slots.now n) in
    omega (arith, c.requires, c.loop-number-test.true, c.loop-number.invariant.room, ap length c.loop-number.invariant.items, length-append c.args.free.now.items (filter old front), filter_short old front, length-take i c.args.used.now, c.loop-number.free.ok.0, c.args.free.now.ok.0)
