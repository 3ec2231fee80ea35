-- The first neighbours, by port and node. Defined by this project.
use Rattle.std.specs.Prelude.{◌≡◌, ℕ, true, false, List, ◌++◌, take}
use Rattle.ipx_wire.specs.declared.address.Network.{Network}
use Rattle.ipx_tables.specs.declared.offer.Offer.{Offer}
use Rattle.ipx_tables.specs.declared.route.RouteMetric.{RouteMetric}
use Rattle.ipx_tables.specs.declared.service.ServiceKey.{ServiceKey}
use Rattle.ipx_tables.specs.declared.service.ServiceMetric.{ServiceMetric}
use Rattle.ipx_tables.specs.declared.source.Source.{Source}
use Rattle.ipx_tables.specs.Content.{Table}
use Rattle.ipx_tables.specs.Route.{network_cmp}
use Rattle.ipx_tables.specs.Service.{service_key_cmp}
use Rattle.ipx_router.specs.Knowledge.{routes_in, services_in}
use Rattle.ipx_table_dump.specs.declared.advertisers.Advertiser.{Advertiser}
use Rattle.ipx_table_dump.specs.StillPresent.{ArePresent}
use Rattle.ipx_table_dump.specs.Advertisers.{AreAdvertisers, advertisements}

-- they are the first 256 neighbours with offers that count at this time, by port and node, each with its
-- counts
pub record AreFirstAdvertisers (routes : Table Network RouteMetric)
    (services : Table ServiceKey ServiceMetric) (now : ℕ) (listed : List (Source × Advertiser)) : Type 0 where
  pub networks_then : List (Offer Network RouteMetric)
  pub services_then : List (Offer ServiceKey ServiceMetric)
  pub advertisers : List (Source × Advertiser)
  pub heard_networks : ArePresent network_cmp (routes_in routes) now networks_then
  pub heard_services : ArePresent service_key_cmp (services_in services) now services_then
  pub told : AreAdvertisers (advertisements true networks_then ++ advertisements false services_then) advertisers
  pub first : listed ≡ take 256 advertisers
