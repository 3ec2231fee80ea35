use Rattle.std.proofs.Common.{◌∙◌, length, sym, ap, subst, arith}
use Rattle.std.specs.List.{filter, remove}
use Rattle.std.proofs.lemmas.List.Edits.{length-remove}
use Rattle.ipx_tables.specs.declared.offer.Offer.{Offer}
use Rattle.ipx_tables.specs.Content.{is_young}
use Rattle.ipx_tables.specs.Expiry.{NoneOldBefore}
use Rattle.ipx_tables.proofs.Expiry.{all_count, no_later_than_oldest, old_removed}
use Rattle.ipx_tables.proofs.ageing.take_old.Goals as goal

pub returns-clause-same : goal.returns-clause-same
returns-clause-same g c =
    let p = λ (o : Offer g.row.K.Denot g.row.M.Denot). is_young c.args.now o.heard in
    let old = sym c.counts.ensures ∙ c.if-counts.false in
    ap (filter p) c.take_out.ensures.items
    ∙ ap (λ l. filter p (remove l c.in-Some.at)) c.in-Some.ensures.same
    ∙ old_removed c.args.offer_store.now c.in-Some.at c.in-Some.moment c.args.now c.in-Some.ensures.oldest old

pub returns-clause-fewer : goal.returns-clause-fewer
returns-clause-fewer g c =
    let at = c.in-Some.at in
    omega (arith, ap length c.take_out.ensures.items, ap (λ l. length (remove l at)) c.in-Some.ensures.same, length-remove c.args.offer_store.now at c.in-Some.ensures.oldest.in_range)

pub returns-then-counts-clause-young : goal.returns-then-counts-clause-young
returns-then-counts-clause-young g c =
    let young = sym c.counts.ensures ∙ c.if-counts.true in
    rw c.in-Some.ensures.same (all_count c.args.offer_store.now c.in-Some.at c.in-Some.moment c.args.now c.in-Some.ensures.oldest young)

pub returns-then-counts-clause-no_later : goal.returns-then-counts-clause-no_later
returns-then-counts-clause-no_later g c = λ moment fits none.
    no_later_than_oldest c.args.offer_store.now c.in-Some.at c.in-Some.moment c.in-Some.ensures.oldest c.expiry.result moment c.expiry.ensures fits (subst (NoneOldBefore moment) c.in-Some.ensures.same none)
