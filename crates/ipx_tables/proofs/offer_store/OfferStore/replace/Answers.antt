use Rattle.ipx_tables.specs.Content.{pair_of}
use Rattle.ipx_tables.proofs.Lists.{pair_total}
use Rattle.ipx_tables.proofs.Places.{set_rising}
use Rattle.ipx_tables.proofs.offer_store.OfferStore.replace.Goals as goal

pub invariant_of-self : goal.invariant_of-self
invariant_of-self g c =
    let here = rw (← c.self.view_is) at c.requires in
    rw c.set.ensures.items (set_rising (pair_total g.met.K.Ord.total) pair_of c.self.inside.offers.items c.self.invariant c.args.offer c.args.at here)

pub returns-clause-rising : goal.returns-clause-rising
returns-clause-rising g c =
    let here = rw (← c.self.view_is) at c.requires in
    rw c.set.ensures.items (set_rising (pair_total g.met.K.Ord.total) pair_of c.self.inside.offers.items c.self.invariant c.args.offer c.args.at here)
