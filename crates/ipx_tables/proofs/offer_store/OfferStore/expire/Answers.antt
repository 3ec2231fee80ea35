use Rattle.std.proofs.Common.{◌≡◌}
use Rattle.std.specs.declared.cmp.Ordering.TheVariants.{Less}
use Rattle.std.proofs.lemmas.List.Kept.{AllPairs-filter}
use Rattle.ipx_tables.specs.Content.{is_young, pair_cmp, pair_of}
use Rattle.ipx_tables.proofs.offer_store.OfferStore.expire.Goals as goal

pub invariant_of-self : goal.invariant_of-self
invariant_of-self g c =
    rw c.expire.ensures.items (AllPairs-filter (λ a b. pair_cmp g.K.Ord.cmp (pair_of a) (pair_of b) ≡ Less) (λ x. is_young c.args.now x.heard) c.self.inside.offers.items c.self.invariant)

pub returns : goal.returns
returns g c = rw (← c.self.view_is) c.expire.ensures.items
