use Rattle.std.proofs.Common.{refl}
use Rattle.ipx_tables.specs.Content.{pair_of}
use Rattle.ipx_tables.proofs.Lists.{pair_total}
use Rattle.ipx_tables.proofs.Places.{insert_rising}
use Rattle.ipx_tables.proofs.offer_store.OfferStore.add.Goals as goal

pub insert-requires-clause-within : goal.insert-requires-clause-within
insert-requires-clause-within g c =
    let gap = rw (← c.self.view_is) at c.requires in
    rw c.in_ok-make_space.ensures.items gap.in_range

pub invariant_of-self-2 : goal.invariant_of-self-2
invariant_of-self-2 g c =
    let gap = rw (← c.self.view_is) at c.requires in
    rw (c.insert.ensures.items, c.make_space.ensures.items) (insert_rising (pair_total g.met.K.Ord.total) pair_of c.self.inside.offers.items c.self.invariant c.args.offer c.args.at gap)

pub returns-clause-rising : goal.returns-clause-rising
returns-clause-rising g c =
    let gap = rw (← c.self.view_is) at c.requires in
    rw (c.insert.ensures.items, c.make_space.ensures.items) (insert_rising (pair_total g.met.K.Ord.total) pair_of c.self.inside.offers.items c.self.invariant c.args.offer c.args.at gap)

pub returns-clause-added : goal.returns-clause-added
returns-clause-added g c = rw (c.insert.ensures.items, c.make_space.ensures.items, ← c.self.view_is) refl
