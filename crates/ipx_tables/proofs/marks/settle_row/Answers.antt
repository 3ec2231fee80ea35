use Rattle.std.proofs.Common.{rules, map}
use Rattle.std.specs.List.Sorted.{IsPermutation}
use Rattle.std.proofs.lemmas.List.Sorted.{All-permutation, IsNonDecreasingBy-from_sort_by_key, IsPermutation-map}
use Rattle.ipx_tables.specs.declared.marks.Mark.{Mark}
use Rattle.ipx_tables.specs.Marks.{IsRightMark}
use Rattle.ipx_tables.proofs.Marked.{all_right, places_right}
use Rattle.ipx_tables.proofs.marks.settle_row.Goals as goal

pub returns-clause-by_time : goal.returns-clause-by_time
returns-clause-by_time g c =
    IsNonDecreasingBy-from_sort_by_key (λ (m : Mark). m.moment) _ c.sort_unstable_by_key.ensures.sorted (λ a r f' k. search rules)

pub returns-clause-places : goal.returns-clause-places
returns-clause-places g c =
    let moved = rw c.put_right.ensures at c.sort_unstable_by_key.ensures.permutation in
    rw (← places_right g.T.Timed.moment c.args.slots.now c.args.marks.now) (IsPermutation-map (λ (m : Mark). m.place) _ _ moved)

pub returns-clause-right : goal.returns-clause-right
returns-clause-right g c =
    let moved = rw c.put_right.ensures at c.sort_unstable_by_key.ensures.permutation in
    All-permutation (IsRightMark g.T.Timed.moment c.args.slots.now) _ _ moved (all_right g.T.Timed.moment c.args.slots.now c.args.marks.now c.requires)
