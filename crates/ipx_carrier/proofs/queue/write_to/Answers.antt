use Rattle.std.proofs.Common.{ap, arith, length, length-take}
use Rattle.ipx_carrier.proofs.queue.write_to.Goals as goal

pub slice_bounds-copy_from_slice-end : goal.slice_bounds-copy_from_slice-end
slice_bounds-copy_from_slice-end c =
    let r = c.args.reply in
    let g = c.requires.givable.1 in
    omega (arith, g.1, r.bytes.ok.0, c.len-count.ensures)

pub slice_bounds-copy_from_slice-end-2 : goal.slice_bounds-copy_from_slice-end-2
slice_bounds-copy_from_slice-end-2 c =
    let r = c.args.reply in
    let g = c.requires.givable.1 in
    omega (arith, g.1, r.bytes.ok.0, c.len-count.ensures, length-take c.len-count.result c.args.room.now)

pub copy_from_slice-requires : goal.copy_from_slice-requires
copy_from_slice-requires c =
    let r = c.args.reply in
    let g = c.requires.givable.1 in
    omega (arith, g.1, r.bytes.ok.0, c.len-count.ensures, length-take c.len-count.result c.args.room.now, ap length c.deref.ensures.value)

pub overflow_sub-result : goal.overflow_sub-result
overflow_sub-result c =
    let g = c.requires.givable.1 in
    g.0.0

pub returns-clause-there : goal.returns-clause-there
returns-clause-there c = λ ports g. omega (arith, g.0.0, g.0.1)
