-- Which networks and services of others a router knows at a time. Defined by this project.
use Rattle.std.specs.Prelude.{◌≡◌, ◌⊎◌, ℕ, List, map}
use Rattle.ipx_wire.specs.declared.address.Network.{Network}
use Rattle.ipx_tables.specs.declared.route.RouteMetric.{RouteMetric}
use Rattle.ipx_tables.specs.declared.service.ServiceKey.{ServiceKey}
use Rattle.ipx_tables.specs.declared.service.ServiceMetric.{ServiceMetric}
use Rattle.ipx_tables.specs.declared.source.Source.{Source}
use Rattle.ipx_tables.specs.Listing.{IsListing, listed_key}
use Rattle.ipx_tables.specs.Route.{network_cmp, route_before}
use Rattle.ipx_tables.specs.Service.{service_before, service_key_cmp}
use Rattle.ipx_router.specs.Knowledge.{routes_in, services_in}
use Rattle.ipx_router.specs.RouterView.{RouterView}
use Rattle.ipx_site.specs.declared.route_change_log.RouteChangeLog.{RouteChangeLog}

-- the networks to which a router has a valid route at this time, each once, in order
abbrev pub AreNetworksKnown : RouterView → ℕ → List Network → Type 0
AreNetworksKnown router now networks = (held : List (Network × Source × RouteMetric))
    × IsListing network_cmp route_before (routes_in router.routes) now held × (networks ≡ map listed_key held)

-- the same of services
abbrev pub AreServicesKnown : RouterView → ℕ → List ServiceKey → Type 0
AreServicesKnown router now services = (held : List (ServiceKey × Source × ServiceMetric))
    × IsListing service_key_cmp service_before (services_in router.services) now held
    × (services ≡ map listed_key held)

-- memory was refused for a look: the services that were noted stay. So do the networks, or they are those known then
abbrev pub LeavesKnown : RouterView → ℕ → RouteChangeLog → RouteChangeLog → Type 0
LeavesKnown router now old new = (new.services ≡ old.services)
    × ((new.networks ≡ old.networks) ⊎ AreNetworksKnown router now new.networks.items)
