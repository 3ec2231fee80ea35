use Rattle.std.proofs.Common.{arith}
use Rattle.ipx_tables.proofs.Marked.{many_moved}
use Rattle.ipx_tables.proofs.marks.settle_all.Goals as goal

pub returns-clause-by_time : goal.returns-clause-by_time
returns-clause-by_time g c =
    let whole = c.make_contiguous.ensures.writes_back c.settle_row.new.marks (omega (arith, many_moved _ _ c.settle_row.ensures.places, c.make_contiguous.ensures.len)) in
    rw whole c.settle_row.ensures.by_time

pub returns-clause-places : goal.returns-clause-places
returns-clause-places g c =
    let whole = c.make_contiguous.ensures.writes_back c.settle_row.new.marks (omega (arith, many_moved _ _ c.settle_row.ensures.places, c.make_contiguous.ensures.len)) in
    let moved = rw c.make_contiguous.ensures.value at c.settle_row.ensures.places in
    rw whole moved

pub returns-clause-right : goal.returns-clause-right
returns-clause-right g c =
    let whole = c.make_contiguous.ensures.writes_back c.settle_row.new.marks (omega (arith, many_moved _ _ c.settle_row.ensures.places, c.make_contiguous.ensures.len)) in
    rw whole c.settle_row.ensures.right
