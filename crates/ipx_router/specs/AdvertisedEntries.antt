-- What a router advertises on a port: its routes and services, without those that leave by that port (Novell
-- IPX Router Specification, split horizon).
use Rattle.std.specs.Prelude.{◌≡◌, ◌≢◌, ◌↔◌, ℕ, ◌+◌, List, Contains, min}
use Rattle.std.specs.declared.cmp.Ordering.{Ordering}
use Rattle.ipx_wire.specs.declared.address.Network.{Network}
use Rattle.ipx_control.specs.declared.rip.packet.RipEntry.{RipEntry}
use Rattle.ipx_control.specs.declared.sap.packet.ServiceEntry.{ServiceEntry}
use Rattle.ipx_tables.specs.declared.route.RouteMetric.{RouteMetric}
use Rattle.ipx_tables.specs.declared.service.ServiceKey.{ServiceKey}
use Rattle.ipx_tables.specs.declared.service.ServiceMetric.{ServiceMetric}
use Rattle.ipx_tables.specs.declared.source.Source.{Source}
use Rattle.ipx_tables.specs.Best.{IsBest}
use Rattle.ipx_tables.specs.Route.{network_cmp}
use Rattle.ipx_tables.specs.Service.{service_before, service_key_cmp}
use Rattle.ipx_tables.specs.Sorted.{IsRising}
use Rattle.ipx_router.specs.declared.port.Port.{Port}
use Rattle.ipx_router.specs.declared.port.PortNow.{PortNow}
use Rattle.ipx_router.specs.Knowledge.{Routes, Services}
use Rattle.ipx_router.specs.declared.route.Route.{Route}
use Rattle.ipx_router.specs.RouteChoice.{IsRouteTo}

-- the list, in the order of the keys, of all those for which a fact holds
pub record IsListOf {X K : Type 0} (cmp : K → K → Ordering) (key_of : X → K) (fact : X → Type 0)
    (xs : List X) : Type 0 where
  pub in_order : IsRising cmp key_of xs
  pub stands : (x : X) → Contains xs x ↔ fact x

-- hops as they are advertised: one more, and 16 at most
abbrev pub advertised_hops : ℕ → ℕ
advertised_hops hops = min (hops + 1) 16

-- ticks as they are advertised on a port of this cost
abbrev pub advertised_ticks : ℕ → ℕ → ℕ
advertised_ticks ticks cost = min (ticks + cost) 65535

-- a route as it is advertised on a port
abbrev pub advertised_route : Network → RouteMetric → PortNow → RipEntry
advertised_route network metric at =
    record {
      network = network;
      hops = advertised_hops metric.hops;
      ticks = advertised_ticks metric.ticks at.port.cost;
    }

-- what is advertised of a route that leaves by another port
pub record IsAdvertisedRoute (ports : List Port) (routes : Routes) (at : PortNow)
    (entry : RipEntry) : Type 0 where
  pub route : Route
  pub leads : IsRouteTo ports routes at.now entry.network route
  pub elsewhere : route.port ≢ at.number
  pub is : entry ≡ advertised_route entry.network route.metric at

abbrev pub route_key : RipEntry → Network
route_key entry = entry.network

-- the routes that are advertised on a port, by network
abbrev pub AreAdvertisedRoutes : List Port → Routes → PortNow → List RipEntry → Type 0
AreAdvertisedRoutes ports routes at = IsListOf network_cmp route_key (IsAdvertisedRoute ports routes at)

abbrev pub key_of_service : ServiceEntry → ServiceKey
key_of_service entry = record { kind = entry.kind; name = entry.name }

-- a service as it is advertised
abbrev pub advertised_service : ServiceKey × Source × ServiceMetric → ServiceEntry
advertised_service item =
    record { kind = item.0.kind; name = item.0.name; at = item.2.at; hops = advertised_hops item.2.hops }

-- what is advertised of a service whose best offer came by another port
pub record IsAdvertisedService (services : Services) (at : PortNow) (entry : ServiceEntry) : Type 0 where
  pub best : Source × ServiceMetric
  pub heard : IsBest service_before services (key_of_service entry) at.now best
  pub elsewhere : best.0.port ≢ at.number
  pub is : entry ≡ advertised_service (key_of_service entry, best.0, best.1)

-- the services that are advertised on a port, by kind and name
abbrev pub AreAdvertisedServices : Services → PortNow → List ServiceEntry → Type 0
AreAdvertisedServices services at = IsListOf service_key_cmp key_of_service (IsAdvertisedService services at)
