use Rattle.ipx_tables.proofs.Walks.{none_walked, walk_lists, walked_as_heard}
use Rattle.ipx_tables.proofs.offers.Offers.bests.Goals as goal

pub returns-clause-listed : goal.returns-clause-listed
returns-clause-listed g c =
    rw (c.bests_on.ensures, ← c.self.view_is) (walk_lists g.met.K.Ord.total g.met.M.Metric.strict c.args.now _ c.len-offers.ensures.rising)

pub returns-clause-keys : goal.returns-clause-keys
returns-clause-keys g c =
    rw (c.bests_on.ensures, ← c.self.view_is) (walked_as_heard g.met.K.Ord.total g.met.M.Metric.strict c.args.now _ c.len-offers.ensures.rising)

pub returns-clause-none : goal.returns-clause-none
returns-clause-none g c =
    rw (c.bests_on.ensures, ← c.self.view_is) (none_walked g.met.K.Ord.total g.met.M.Metric.strict c.args.now _ c.len-offers.ensures.rising)
