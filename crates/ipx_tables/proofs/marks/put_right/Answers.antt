use Rattle.std.proofs.Common.{◌<◌, ◌∙◌, length, get_or, set, ap, arith}
use Rattle.std.proofs.lemmas.Grind.{common_steps}
use Rattle.std.proofs.lemmas.List.{get_or_default}
use Rattle.std.proofs.lemmas.List.Edits.{map_over_more}
use Rattle.ipx_tables.specs.declared.marks.Mark.{Mark}
use Rattle.ipx_tables.specs.Marks.{right_mark}
use Rattle.ipx_tables.proofs.marks.put_right.Goals as goal

pub loop-mark-preserved : goal.loop-mark-preserved
loop-mark-preserved g c =
    let ys = c.loop-mark.marks in
    let i = c.loop-mark.mark-index in
    let nothing : Mark = record { moment = 0; place = 0 } in
    let x = get_or ys i nothing in
    let within : i < length ys = grind (arith, common_steps) in
    let long : i < length c.args.marks.now = grind (arith, common_steps) in
    ap (set ys i) c.right.ensures ∙ map_over_more (right_mark g.T.Timed.moment c.args.slots.now) c.args.marks.now ys i x long c.loop-mark.invariant (get_or_default ys i nothing x within)
