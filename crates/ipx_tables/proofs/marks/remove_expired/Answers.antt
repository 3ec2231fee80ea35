use Rattle.std.proofs.Common.{◌∙◌, sym, ap, subst}
use Rattle.std.specs.List.{filter}
use Rattle.std.specs.List.Sorted.{IsPermutation}
use Rattle.std.proofs.lemmas.List.Elements.{All-filter}
use Rattle.ipx_tables.specs.declared.marks.Mark.{Mark}
use Rattle.ipx_tables.specs.Content.{is_young}
use Rattle.ipx_tables.specs.Marks.{IsNoLater, places_of}
use Rattle.ipx_tables.specs.SlotOrder.{is_young_in}
use Rattle.ipx_tables.proofs.Marked.{by_moment_filter, places_young, real_moved}
use Rattle.ipx_tables.proofs.Permuted.{permuted_filter}
use Rattle.ipx_tables.proofs.marks.remove_expired.Goals as goal

pub returns-clause-by_time : goal.returns-clause-by_time
returns-clause-by_time g c =
    rw c.cut_off_old.ensures.items (by_moment_filter (λ (m : Mark). is_young c.args.now m.moment) c.settle_old.new.marks.items c.settle_old.ensures.by_time)

pub returns-clause-places : goal.returns-clause-places
returns-clause-places g c =
    let moment = g.T.Timed.moment in
    let slots = c.args.slots.now in
    let before = c.args.marks.now.items in
    let settled = c.settle_old.new.marks.items in
    let real = real_moved moment _ before settled c.settle_old.ensures.places c.requires.real in
    let kept = is_young_in moment c.args.now slots in
    subst (IsPermutation (filter kept (places_of before)))
    (sym (ap places_of c.cut_off_old.ensures.items ∙ places_young moment c.args.now slots settled real c.settle_old.ensures.no_later c.settle_old.ensures.right))
    (permuted_filter kept (places_of before) (places_of settled) c.settle_old.ensures.places)

pub returns-clause-no_later : goal.returns-clause-no_later
returns-clause-no_later g c =
    rw c.cut_off_old.ensures.items (All-filter (λ (m : Mark). is_young c.args.now m.moment) (IsNoLater g.T.Timed.moment c.args.slots.now) c.settle_old.new.marks.items c.settle_old.ensures.no_later)
