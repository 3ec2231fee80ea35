use Rattle.ipx_tables.specs.Service.{service_key_exact}
use Rattle.ipx_tables.proofs.laws.service_listing_is_one.Goals as goal

pub returns : goal.returns
returns c = c.one_listing.ensures service_key_exact
