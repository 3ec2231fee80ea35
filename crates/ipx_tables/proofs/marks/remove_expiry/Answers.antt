use Rattle.std.proofs.Common.{sym, ◌∙◌, arith}
use Rattle.ipx_tables.proofs.Marked.{came_some, mark_removed, no_mark}
use Rattle.ipx_tables.proofs.marks.remove_expiry.Goals as goal

pub returns-in-Some-clause-items : goal.returns-in-Some-clause-items
returns-in-Some-clause-items c =
    let marks = c.args.marks.now in
    let found = c.in-Some.ensures in
    let there = c.remove-gone.ensures.variant.1 (omega (arith, found.there, marks.ok.0)) in
    came_some c.remove-gone.result there c.remove-gone.ensures.items
    ∙ sym (mark_removed marks.items c.args.place c.in-Some.at c.requires found.there found.is)

pub returns-in_default-clause-items : goal.returns-in_default-clause-items
returns-in_default-clause-items c = sym (no_mark c.args.marks.now.items c.args.place c.in_default.ensures.absent)
