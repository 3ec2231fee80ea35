use Rattle.ipx_tables.proofs.Inventories.{all_as_heard, is_inventory}
use Rattle.ipx_tables.proofs.offers.Offers.offers.Goals as goal

pub returns-clause-inventory : goal.returns-clause-inventory
returns-clause-inventory g c =
    rw (c.offers_on.ensures, ← c.self.view_is) (is_inventory g.met.K.Ord.total _ c.len-offers.ensures.rising)

pub returns-clause-keys : goal.returns-clause-keys
returns-clause-keys g c =
    rw (c.offers_on.ensures, ← c.self.view_is) (all_as_heard g.met.K.Ord.total _ c.len-offers.ensures.rising)
