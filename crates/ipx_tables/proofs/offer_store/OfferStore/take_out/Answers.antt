use Rattle.std.proofs.Common.{◌<◌, length}
use Rattle.ipx_tables.specs.Content.{pair_of}
use Rattle.ipx_tables.proofs.Lists.{pair_total}
use Rattle.ipx_tables.proofs.Places.{remove_rising}
use Rattle.ipx_tables.proofs.offer_store.OfferStore.take_out.Goals as goal

pub invariant_of-self : goal.invariant_of-self
invariant_of-self g c =
    let within : c.args.at < length c.self.inside.offers.items = rw c.self.view_is c.requires in
    rw c.take_out-gone.ensures.items (remove_rising (pair_total g.met.K.Ord.total) pair_of c.self.inside.offers.items c.self.invariant c.args.at within)

pub returns-clause-rising : goal.returns-clause-rising
returns-clause-rising g c =
    let within : c.args.at < length c.self.inside.offers.items = rw c.self.view_is c.requires in
    rw c.take_out-gone.ensures.items (remove_rising (pair_total g.met.K.Ord.total) pair_of c.self.inside.offers.items c.self.invariant c.args.at within)
