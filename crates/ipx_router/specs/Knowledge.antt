-- What a router knows at a time: its ports, and the offers that it learned and that are not old.
use Rattle.std.specs.Prelude.{◌≡◌, ℕ, List}
use Rattle.ipx_wire.specs.declared.address.Network.{Network}
use Rattle.ipx_tables.specs.declared.route.RouteMetric.{RouteMetric}
use Rattle.ipx_tables.specs.declared.service.ServiceKey.{ServiceKey}
use Rattle.ipx_tables.specs.declared.service.ServiceMetric.{ServiceMetric}
use Rattle.ipx_tables.specs.declared.source.Source.{Source}
use Rattle.ipx_tables.specs.Content.{Content, IsTable, Table, content, after_age}
use Rattle.ipx_tables.specs.Route.{network_cmp}
use Rattle.ipx_tables.specs.Service.{service_key_cmp}
use Rattle.ipx_router.specs.declared.port.Port.{Port}
use Rattle.ipx_router.specs.RouterView.{RouterView}

abbrev pub Routes : Type 0
Routes = Content Network RouteMetric

abbrev pub Services : Type 0
Services = Content ServiceKey ServiceMetric

abbrev pub routes_in : Table Network RouteMetric → Routes
routes_in t = content network_cmp t.offers

abbrev pub services_in : Table ServiceKey ServiceMetric → Services
services_in t = content service_key_cmp t.offers

-- a table says just this of each network and source
abbrev pub HoldsRoutes : Table Network RouteMetric → Routes → Type 0
HoldsRoutes t routes = (p : Network × Source) → routes_in t p ≡ routes p

abbrev pub HoldsServices : Table ServiceKey ServiceMetric → Services → Type 0
HoldsServices t services = (p : ServiceKey × Source) → services_in t p ≡ services p

pub record Known : Type 0 where
  pub ports : List Port
  pub routes : Routes
  pub services : Services

-- what is known by these ports and tables as they are
abbrev pub known_in : List Port → Table Network RouteMetric → Table ServiceKey ServiceMetric → Known
known_in ports routes services =
    record { ports = ports; routes = routes_in routes; services = services_in services }

-- what is known at a time, without the offers that are old then
abbrev pub known_aged : List Port → Table Network RouteMetric
    → Table ServiceKey ServiceMetric → ℕ → Known
known_aged ports routes services now = record {
  ports = ports;
  routes = after_age (routes_in routes) now;
  services = after_age (services_in services) now;
}

abbrev pub known_at : RouterView → ℕ → Known
known_at r now = known_aged r.ports r.routes r.services now

-- the tables of a router
abbrev pub Tables : Type 0
Tables = Table Network RouteMetric × Table ServiceKey ServiceMetric

abbrev pub tables : RouterView → Tables
tables r = (r.routes, r.services)

-- no network or service is listed twice from one source, and there are at most 1,024 and 4,096 offers
pub record AreTables (t : Tables) : Type 0 where
  pub routes : IsTable network_cmp t.0
  pub services : IsTable service_key_cmp t.1
  pub most_routes : t.0.capacity ≡ 1024
  pub most_services : t.1.capacity ≡ 4096

-- tables hold just what is known
pub record HoldsKnown (k : Known) (new : Tables) : Type 0 where
  pub routes : HoldsRoutes new.0 k.routes
  pub services : HoldsServices new.1 k.services

-- all that a router's calls keep: everything except the offers that it holds
pub record KeepsAllButOffers (old new : RouterView) : Type 0 where
  pub ports : new.ports ≡ old.ports
  pub most_routes : new.routes.capacity ≡ old.routes.capacity
  pub most_services : new.services.capacity ≡ old.services.capacity
