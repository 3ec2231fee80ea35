use Rattle.std.proofs.Common.{◌≡◌, ◌-◌, ◌∙◌, take, ap, rules, tests, arith}
use Rattle.std.specs.List.{list_any, slice_range}
use Rattle.std.proofs.lemmas.Iterator.Consumers.{YieldsList-from_deque}
use Rattle.std.proofs.lemmas.Iterator.Search.{any_from_yields_List}
use Rattle.ipx_tables.specs.Marks.{is_late_mark}
use Rattle.ipx_tables.proofs.marks.any_late.Goals as goal

pub returns : goal.returns
returns g c =
    let late = is_late_mark g.T.Timed.moment c.args.slots.now in
    let marks = c.args.marks.now.items in
    let all : c.args.count - 0 ≡ c.args.count = omega arith in
    any_from_yields_List late _ _ _ c.any.ensures.ran (YieldsList-from_deque (slice_range marks 0 c.args.count) c.range.ensures.rest) (λ x b q k. search (rules, tests))
    ∙ ap (λ n. list_any late (take n marks)) all
