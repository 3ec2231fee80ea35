use Rattle.std.proofs.Common.{◌∙◌, ap, sym, rules}
use Rattle.std.specs.Ordering.{is_eq}
use Rattle.std.proofs.lemmas.List.Sorted.{answers_always}
use Rattle.ipx_table_dump.proofs.Ranked.{between_others, indexes_rise, listed_at, none_listed}
use Rattle.ipx_table_dump.proofs.valid_offers.is_among_best.Goals as goal

pub returns-in-Ok : goal.returns-in-Ok
returns-in-Ok g c =
    let by = c.in-Ok.ensures.position (λ b. b.0) (answers_always _ _ _ (λ f a r h called. search rules)) in
    c.is_eq.ensures ∙ ap is_eq c.cmp.ensures ∙ listed_at g.row.M.Denot g.met.K.Ord.total c.args.bests.now c.in-Ok.at c.args.offer.now c.requires c.in-Ok.ensures.bound by _

pub returns-in-Err : goal.returns-in-Err
returns-in-Err g c =
    let by = c.in-Err.ensures.position (λ b. b.0) (answers_always _ _ _ (λ f a r h called. search rules)) in
    sym (none_listed g.row.M.Denot g.met.K.Ord.total c.args.bests.now c.args.offer.now (between_others g.row.M.Denot g.met.K.Ord.total c.args.bests.now c.in-Err.field-0 c.args.offer.now.key (by (indexes_rise g.row.M.Denot g.met.K.Ord.total c.args.bests.now c.args.offer.now.key c.requires))))
