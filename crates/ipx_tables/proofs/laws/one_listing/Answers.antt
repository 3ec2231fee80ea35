use Rattle.ipx_tables.proofs.Unique.{listing_is_one}
use Rattle.ipx_tables.proofs.laws.one_listing.Goals as goal

pub returns : goal.returns
returns g c exact content now a b = listing_is_one g.met.M.Metric.strict g.met.K.Ord.total exact content now a b
