use Rattle.ipx_tables.proofs.Expiry.{never_gap, oldest_at}
use Rattle.ipx_tables.proofs.Lists.{pair_total}
use Rattle.ipx_tables.proofs.offer_store.OfferStore.oldest.Goals as goal

pub returns-clause-oldest : goal.returns-clause-oldest
returns-clause-oldest g c =
    let items = c.self.inside.offers.items in
    let found = rw c.oldest.ensures.items at c.in-Ok.ensures.found in
    rw (← c.self.view_is) (oldest_at g.K.Ord.cmp (pair_total g.met.K.Ord.total) items c.self.invariant c.in_ok-oldest.oldest c.in_ok-oldest.ensures.oldest c.in-Ok.at found)

pub returns-in_default-clause-none : goal.returns-in_default-clause-none
returns-in_default-clause-none g c =
    let items = c.self.inside.offers.items in
    let gap = rw c.oldest.ensures.items at c.in_default.ensures.absent in
    absurd (never_gap g.K.Ord.cmp (pair_total g.met.K.Ord.total) items c.self.invariant c.in_ok-oldest.oldest c.in_ok-oldest.ensures.oldest c.in_default.field-0 gap)
