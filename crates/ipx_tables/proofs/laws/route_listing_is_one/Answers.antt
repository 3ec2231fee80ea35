use Rattle.ipx_tables.specs.Route.{network_exact}
use Rattle.ipx_tables.proofs.laws.route_listing_is_one.Goals as goal

pub returns : goal.returns
returns c = c.one_listing.ensures network_exact
