use Rattle.std.proofs.lemmas.List.Sums.{length-filter}
use Rattle.std.proofs.Common.{arith}
use Rattle.ipx_tables.specs.Content.{is_young}
use Rattle.ipx_tables.proofs.Lists.{filter_short, same_equiv, found_filter, separate_filter, told_filter}
use Rattle.ipx_tables.proofs.Expiry.{aged_none, keys_none, many_none}
use Rattle.ipx_tables.proofs.offers.Offers.age.Goals as goal

pub returns-then-now-self-clause-aged : goal.returns-then-now-self-clause-aged
returns-then-now-self-clause-aged g c p =
    rw (← c.self.view_is) (aged_none g.met.K.Ord.total _ c.self.invariant.0.apart _ c.args.now c.self.invariant.1 c.if-now-self.true p)

pub returns-then-now-self-clause-keys : goal.returns-then-now-self-clause-keys
returns-then-now-self-clause-keys g c p =
    rw (← c.self.view_is) (keys_none g.met.K.Ord.total _ c.self.invariant.0.apart _ c.args.now c.self.invariant.1 c.if-now-self.true p)

pub returns-then-now-self-clause-many : goal.returns-then-now-self-clause-many
returns-then-now-self-clause-many g c =
    rw (← c.self.view_is) (many_none g.met.K.Ord.total _ c.self.invariant.0.apart _ c.args.now c.self.invariant.1 c.if-now-self.true)

pub invariant_of-self : goal.invariant_of-self
invariant_of-self g c =
    rw c.expire-self-inside.ensures.young (record { apart = separate_filter (same_equiv g.met.K.Ord.total) _ _ c.self.invariant.0.apart; within = omega (arith, c.self.invariant.0.within, filter_short (λ o. is_young c.args.now o.heard) c.self.inside.offer_store) }, rw c.expire-self-inside.ensures.young at c.expire-self-inside.ensures.until)

pub returns-clause-aged : goal.returns-clause-aged
returns-clause-aged g c p =
    rw (c.expire-self-inside.ensures.young, ← c.self.view_is) (found_filter (same_equiv g.met.K.Ord.total) _ _ c.self.invariant.0.apart p)

pub returns-clause-fewer : goal.returns-clause-fewer
returns-clause-fewer g c =
    rw (c.expire-self-inside.ensures.young, ← c.self.view_is) (omega (arith, filter_short (λ o. is_young c.args.now o.heard) c.self.inside.offer_store))

pub returns-clause-many : goal.returns-clause-many
returns-clause-many g c =
    rw (c.expire-self-inside.ensures.young, ← c.self.view_is) (length-filter (λ o. is_young c.args.now o.heard) c.self.inside.offer_store)

pub returns-clause-valid : goal.returns-clause-valid
returns-clause-valid g c =
    rw c.expire-self-inside.ensures.young (record { apart = separate_filter (same_equiv g.met.K.Ord.total) _ _ c.self.invariant.0.apart; within = omega (arith, c.self.invariant.0.within, filter_short (λ o. is_young c.args.now o.heard) c.self.inside.offer_store) })

pub returns-clause-keys : goal.returns-clause-keys
returns-clause-keys g c p =
    let aged = found_filter (same_equiv g.met.K.Ord.total) _ c.args.now c.self.invariant.0.apart p in
    rw (c.expire-self-inside.ensures.young, ← c.self.view_is, aged) (told_filter (same_equiv g.met.K.Ord.total) (λ o. o.key) _ _ c.self.invariant.0.apart p)
