use Rattle.std.proofs.Common.{◌∙◌, sym}
use Rattle.ipx_tables.proofs.Marked.{front_right, old_right}
use Rattle.ipx_tables.proofs.marks.settle_old.Goals as goal

pub returns-else-any_late-clause-right : goal.returns-else-any_late-clause-right
returns-else-any_late-clause-right g c =
    let moment = g.T.Timed.moment in
    let slots = c.args.slots.now in
    let marks = c.args.marks.now.items in
    let cut = c.old_marks-old in
    let none = sym c.any_late.ensures ∙ c.if-any_late.false in
    old_right moment slots marks cut.result c.args.now (front_right moment slots marks cut.result cut.ensures.bound c.requires.real none) cut.ensures.young
