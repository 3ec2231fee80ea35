use Rattle.std.proofs.Common.{◌∙◌, refl, sym, ap, arith}
use mathlib.Core.Bool.{true≢false}
use Rattle.std.specs.Option.{is_some}
use Rattle.std.proofs.lemmas.Grind.{common_steps}
use Rattle.std.proofs.lemmas.List.Edits.{length-insert, length-remove}
use Rattle.ipx_tables.specs.declared.offer.Offer.{Offer}
use Rattle.ipx_tables.specs.Content.{said_of}
use Rattle.ipx_tables.proofs.Expiry.{none_old_inserted, none_old_removed, none_old_set}
use Rattle.ipx_tables.proofs.Lists.{hear_inserted, hear_none, hear_removed, hear_set, hear_some, hear_there}
use Rattle.ipx_tables.proofs.Ordered.{separate_rising, at_same, unsaid}
use Rattle.ipx_tables.proofs.offers.Offers.hear.Goals as goal

pub invariant_of-self : goal.invariant_of-self
invariant_of-self g c =
    (record { apart = separate_rising g.met.K.Ord.total _ c.take_out.ensures.rising; within = rw c.take_out.ensures.items (omega (arith, c.self.invariant.0.within, length-remove _ c.in-Ok.at c.in-Ok.ensures.found.in_range)) }, rw c.take_out.ensures.items (none_old_removed _ _ c.self.invariant.1 _))

pub returns-in-Ok-clause-heard : goal.returns-in-Ok-clause-heard
returns-in-Ok-clause-heard g c =
    let here = at_same g.met.K.Ord.total _ _ _ c.in-Ok.ensures.found in
    rw (c.take_out.ensures.items, ← c.self.view_is) (hear_removed g.met.K.Ord.total g.M.Metric.dead _ c.self.invariant.0.apart _ _ c.args.metric c.args.now _ here said_of (sym c.dead.ensures ∙ c.if-dead.true))

pub returns-in-Ok-clause-keys : goal.returns-in-Ok-clause-keys
returns-in-Ok-clause-keys g c =
    let here = at_same g.met.K.Ord.total _ _ _ c.in-Ok.ensures.found in
    rw (c.take_out.ensures.items, ← c.self.view_is) (hear_removed g.met.K.Ord.total g.M.Metric.dead _ c.self.invariant.0.apart _ _ c.args.metric c.args.now _ here (λ o. o.key) (sym c.dead.ensures ∙ c.if-dead.true))

pub returns-in-Ok-clause-valid : goal.returns-in-Ok-clause-valid
returns-in-Ok-clause-valid g c =
    record { apart = separate_rising g.met.K.Ord.total _ c.take_out.ensures.rising; within = rw c.take_out.ensures.items (omega (arith, c.self.invariant.0.within, length-remove _ c.in-Ok.at c.in-Ok.ensures.found.in_range)) }

pub returns-in-Ok-clause-many : goal.returns-in-Ok-clause-many
returns-in-Ok-clause-many g c =
    let here = at_same g.met.K.Ord.total _ _ _ c.in-Ok.ensures.found in
    let some = hear_some g.met.K.Ord.total g.M.Metric.dead _ c.self.invariant.0.apart _ _ c.args.metric c.args.now _ here in
    let dead = sym c.dead.ensures ∙ c.if-dead.true in
    rw (c.take_out.ensures.items, ← c.self.view_is, some, dead) (omega (arith, length-remove _ c.in-Ok.at here.in_range))

pub returns-in_default-clause-heard : goal.returns-in_default-clause-heard
returns-in_default-clause-heard g c =
    let gone = unsaid g.met.K.Ord.total _ _ _ c.in_default.ensures.absent in
    rw (← c.self.view_is) (hear_none g.met.K.Ord.total g.M.Metric.dead _ c.self.invariant.0.apart _ _ c.args.metric c.args.now said_of gone (sym c.dead.ensures ∙ c.if-dead.true))

pub returns-in_default-clause-keys : goal.returns-in_default-clause-keys
returns-in_default-clause-keys g c =
    let gone = unsaid g.met.K.Ord.total _ _ _ c.in_default.ensures.absent in
    rw (← c.self.view_is) (hear_none g.met.K.Ord.total g.M.Metric.dead _ c.self.invariant.0.apart _ _ c.args.metric c.args.now (λ o. o.key) gone (sym c.dead.ensures ∙ c.if-dead.true))

pub returns-in_default-clause-many : goal.returns-in_default-clause-many
returns-in_default-clause-many g c =
    let gone = unsaid g.met.K.Ord.total _ _ _ c.in_default.ensures.absent in
    let dead = sym c.dead.ensures ∙ c.if-dead.true in
    rw (← c.self.view_is, gone, dead) (omega arith)

pub invariant_of-self-in-Ok-place : goal.invariant_of-self-in-Ok-place
invariant_of-self-in-Ok-place g c =
    (record { apart = separate_rising g.met.K.Ord.total _ c.replace.ensures.rising; within = rw c.replace.ensures.items (grind (arith, common_steps, c.self.invariant.0.within)) }, rw c.replace.ensures.items (none_old_set _ _ c.self.invariant.1 _ _ c.args.key c.args.source c.args.metric c.args.now c.min-self-inside.ensures c.expiry.ensures _))

pub returns-in-Ok-place-clause-heard : goal.returns-in-Ok-place-clause-heard
returns-in-Ok-place-clause-heard g c =
    let here = at_same g.met.K.Ord.total _ _ _ c.in-Ok-place.ensures.found in
    rw (c.replace.ensures.items, ← c.self.view_is) (hear_set g.met.K.Ord.total g.M.Metric.dead _ c.self.invariant.0.apart _ _ c.args.metric c.args.now _ here said_of (sym c.dead.ensures ∙ c.if-dead.false))

pub returns-in-Ok-place-clause-keys : goal.returns-in-Ok-place-clause-keys
returns-in-Ok-place-clause-keys g c =
    let here = at_same g.met.K.Ord.total _ _ _ c.in-Ok-place.ensures.found in
    rw (c.replace.ensures.items, ← c.self.view_is) (hear_set g.met.K.Ord.total g.M.Metric.dead _ c.self.invariant.0.apart _ _ c.args.metric c.args.now _ here (λ o. o.key) (sym c.dead.ensures ∙ c.if-dead.false))

pub returns-in-Ok-place-clause-valid : goal.returns-in-Ok-place-clause-valid
returns-in-Ok-place-clause-valid g c =
    record { apart = separate_rising g.met.K.Ord.total _ c.replace.ensures.rising; within = rw c.replace.ensures.items (grind (arith, common_steps, c.self.invariant.0.within)) }

pub returns-in-Ok-place-clause-full : goal.returns-in-Ok-place-clause-full
returns-in-Ok-place-clause-full g c =
    let here = at_same g.met.K.Ord.total _ _ _ c.in-Ok-place.ensures.found in
    rw (← c.self.view_is) ((λ e. cc), (λ f. absurd (hear_there g.met.K.Ord.total g.M.Metric.dead _ c.self.invariant.0.apart _ _ c.args.metric c.args.now _ here f.unknown)))

pub returns-in-Ok-place-clause-many : goal.returns-in-Ok-place-clause-many
returns-in-Ok-place-clause-many g c =
    let here = at_same g.met.K.Ord.total _ _ _ c.in-Ok-place.ensures.found in
    let some = hear_some g.met.K.Ord.total g.M.Metric.dead _ c.self.invariant.0.apart _ _ c.args.metric c.args.now _ here in
    let alive = sym c.dead.ensures ∙ c.if-dead.false in
    rw (c.replace.ensures.items, ← c.self.view_is, some, alive) (grind (arith, common_steps))

pub returns-in_err-add-in-Err-2-clause-out_of_memory : goal.returns-in_err-add-in-Err-2-clause-out_of_memory
returns-in_err-add-in-Err-2-clause-out_of_memory g c =
    let gone = unsaid g.met.K.Ord.total _ _ _ c.in-Err-2.ensures.absent in
    rw (← c.self.view_is) (λ e. record { alive = sym c.dead.ensures ∙ c.if-dead.false; unknown = gone; room = omega (arith, c.len.ensures.len, c.if-len-self.false) })

pub returns-in_err-add-in-Err-2-clause-no_memory_if_there : goal.returns-in_err-add-in-Err-2-clause-no_memory_if_there
returns-in_err-add-in-Err-2-clause-no_memory_if_there g c =
    let gone = unsaid g.met.K.Ord.total _ _ _ c.in-Err-2.ensures.absent in
    rw (← c.self.view_is) (λ there. absurd (true≢false (sym there ∙ ap is_some gone)))

pub invariant_of-self-in-Err-2 : goal.invariant_of-self-in-Err-2
invariant_of-self-in-Err-2 g c =
    let offer : Offer g.row.K.Denot g.row.M.Denot = record { key = c.args.key; source = c.args.source; metric = c.args.metric; heard = c.args.now } in
    (record { apart = separate_rising g.met.K.Ord.total _ c.in_ok-add-in-Err-2.ensures.rising; within = rw c.in_ok-add-in-Err-2.ensures.added (omega (arith, c.len.ensures.len, c.if-len-self.false, length-insert c.self.inside.offer_store c.in-Err-2.at offer c.in-Err-2.ensures.absent.in_range)) }, rw c.in_ok-add-in-Err-2.ensures.added (none_old_inserted _ _ c.self.invariant.1 _ _ c.args.key c.args.source c.args.metric c.args.now c.min-self-inside.ensures c.expiry.ensures _))

pub returns-in_ok-add-in-Err-2-clause-heard : goal.returns-in_ok-add-in-Err-2-clause-heard
returns-in_ok-add-in-Err-2-clause-heard g c =
    let gone = unsaid g.met.K.Ord.total _ _ _ c.in-Err-2.ensures.absent in
    rw (c.in_ok-add-in-Err-2.ensures.added, ← c.self.view_is) (hear_inserted g.met.K.Ord.total g.M.Metric.dead _ c.self.invariant.0.apart _ _ c.args.metric c.args.now said_of _ gone (sym c.dead.ensures ∙ c.if-dead.false))

pub returns-in_ok-add-in-Err-2-clause-keys : goal.returns-in_ok-add-in-Err-2-clause-keys
returns-in_ok-add-in-Err-2-clause-keys g c =
    let gone = unsaid g.met.K.Ord.total _ _ _ c.in-Err-2.ensures.absent in
    rw (c.in_ok-add-in-Err-2.ensures.added, ← c.self.view_is) (hear_inserted g.met.K.Ord.total g.M.Metric.dead _ c.self.invariant.0.apart _ _ c.args.metric c.args.now (λ o. o.key) _ gone (sym c.dead.ensures ∙ c.if-dead.false))

pub returns-in_ok-add-in-Err-2-clause-valid : goal.returns-in_ok-add-in-Err-2-clause-valid
returns-in_ok-add-in-Err-2-clause-valid g c =
    let offer : Offer g.row.K.Denot g.row.M.Denot = record { key = c.args.key; source = c.args.source; metric = c.args.metric; heard = c.args.now } in
    record { apart = separate_rising g.met.K.Ord.total _ c.in_ok-add-in-Err-2.ensures.rising; within = rw c.in_ok-add-in-Err-2.ensures.added (omega (arith, c.len.ensures.len, c.if-len-self.false, length-insert c.self.inside.offer_store c.in-Err-2.at offer c.in-Err-2.ensures.absent.in_range)) }

pub returns-in_ok-add-in-Err-2-clause-many : goal.returns-in_ok-add-in-Err-2-clause-many
returns-in_ok-add-in-Err-2-clause-many g c =
    let offer : Offer g.row.K.Denot g.row.M.Denot = record { key = c.args.key; source = c.args.source; metric = c.args.metric; heard = c.args.now } in
    let gone = unsaid g.met.K.Ord.total _ _ _ c.in-Err-2.ensures.absent in
    let alive = sym c.dead.ensures ∙ c.if-dead.false in
    rw (c.in_ok-add-in-Err-2.ensures.added, ← c.self.view_is, gone, alive) (omega (arith, length-insert c.self.inside.offer_store c.in-Err-2.at offer c.in-Err-2.ensures.absent.in_range))

pub returns-in-Err-clause-full : goal.returns-in-Err-clause-full
returns-in-Err-clause-full g c =
    let gone = unsaid g.met.K.Ord.total _ _ _ c.in-Err.ensures.absent in
    rw (← c.self.view_is) ((λ e. record { alive = sym c.dead.ensures ∙ c.if-dead.false; unknown = gone; full = omega (arith, c.len.ensures.len, c.if-len-self.true) }), (λ f. refl))

pub returns-in-Err-clause-no_memory_if_there : goal.returns-in-Err-clause-no_memory_if_there
returns-in-Err-clause-no_memory_if_there g c =
    let gone = unsaid g.met.K.Ord.total _ _ _ c.in-Err.ensures.absent in
    rw (← c.self.view_is) (λ there. absurd (true≢false (sym there ∙ ap is_some gone)))

pub returns-in-Ok-clause-full : goal.returns-in-Ok-clause-full
returns-in-Ok-clause-full g c = ((λ e. cc), (λ f. absurd (true≢false (sym (sym c.dead.ensures ∙ c.if-dead.true) ∙ f.alive))))

pub returns-in_default-clause-full : goal.returns-in_default-clause-full
returns-in_default-clause-full g c = ((λ e. cc), (λ f. absurd (true≢false (sym (sym c.dead.ensures ∙ c.if-dead.true) ∙ f.alive))))

pub returns-in_err-add-in-Err-2-clause-full : goal.returns-in_err-add-in-Err-2-clause-full
returns-in_err-add-in-Err-2-clause-full g c = rw (← c.self.view_is) ((λ e. grind (arith, common_steps)), (λ f. absurd (omega (arith, f.full, c.len.ensures.len, c.if-len-self.false))))

pub returns-in_ok-add-in-Err-2-clause-full : goal.returns-in_ok-add-in-Err-2-clause-full
returns-in_ok-add-in-Err-2-clause-full g c = rw (← c.self.view_is) ((λ e. cc), (λ f. absurd (omega (arith, f.full, c.len.ensures.len, c.if-len-self.false))))

pub returns-in-Ok-clause-out_of_memory : goal.returns-in-Ok-clause-out_of_memory
returns-in-Ok-clause-out_of_memory g c = λ e. cc

pub returns-in_default-clause-out_of_memory : goal.returns-in_default-clause-out_of_memory
returns-in_default-clause-out_of_memory g c = λ e. cc

pub returns-in-Ok-place-clause-out_of_memory : goal.returns-in-Ok-place-clause-out_of_memory
returns-in-Ok-place-clause-out_of_memory g c = λ e. cc

pub returns-in-Err-clause-out_of_memory : goal.returns-in-Err-clause-out_of_memory
returns-in-Err-clause-out_of_memory g c = λ e. cc

pub returns-in_ok-add-in-Err-2-clause-out_of_memory : goal.returns-in_ok-add-in-Err-2-clause-out_of_memory
returns-in_ok-add-in-Err-2-clause-out_of_memory g c = λ e. cc

pub returns-in-Ok-clause-no_memory_if_there : goal.returns-in-Ok-clause-no_memory_if_there
returns-in-Ok-clause-no_memory_if_there g c = λ there. refl

pub returns-in_default-clause-no_memory_if_there : goal.returns-in_default-clause-no_memory_if_there
returns-in_default-clause-no_memory_if_there g c = λ there. refl

pub returns-in-Ok-place-clause-no_memory_if_there : goal.returns-in-Ok-place-clause-no_memory_if_there
returns-in-Ok-place-clause-no_memory_if_there g c = λ there. refl

pub returns-in_ok-add-in-Err-2-clause-no_memory_if_there : goal.returns-in_ok-add-in-Err-2-clause-no_memory_if_there
returns-in_ok-add-in-Err-2-clause-no_memory_if_there g c = λ there. refl
