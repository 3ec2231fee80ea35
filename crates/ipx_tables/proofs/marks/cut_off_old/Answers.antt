use Rattle.std.proofs.Common.{◌-◌, ◌∙◌, take, ap, arith}
use Rattle.ipx_tables.specs.Content.{is_young}
use Rattle.ipx_tables.proofs.Marked.{cut_is_filter}
use Rattle.ipx_tables.proofs.marks.cut_off_old.Goals as goal

pub returns-clause-items : goal.returns-clause-items
returns-clause-items c =
    let marks = c.args.marks.now.items in
    let cut = c.old_marks-old in
    c.truncate.ensures.items
    ∙ ap (take (c.len.result - cut.result)) c.rotate_left.ensures.items
    ∙ cut_is_filter (λ m. is_young c.args.now m.moment) marks cut.result _ cut.ensures.bound (omega (arith, c.len.ensures, c.args.marks.now.ok.0)) cut.ensures.old cut.ensures.young
