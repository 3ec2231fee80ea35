-- What a router says on a port as it stops: what it advertised there, each entry with 16 hops, which means that it is
-- unreachable. Defined by this project; 16 hops are of the Novell IPX Router Specification. The entry point is
-- `AreFarewell`.
use Rattle.std.specs.Prelude.{◌≡◌, ◌↔◌, ℕ, false, List, ◌++◌, Contains, filter, map}
use Rattle.ipx_wire.specs.declared.address.Network.{Network}
use Rattle.ipx_wire.specs.Assigned.{rip_socket, sap_socket}
use Rattle.ipx_control.specs.declared.rip.packet.RipEntry.{RipEntry}
use Rattle.ipx_control.specs.declared.sap.packet.ServiceEntry.{ServiceEntry}
use Rattle.ipx_tables.specs.declared.route.RouteMetric.{RouteMetric}
use Rattle.ipx_tables.specs.declared.service.ServiceKey.{ServiceKey}
use Rattle.ipx_tables.specs.declared.service.ServiceMetric.{ServiceMetric}
use Rattle.ipx_tables.specs.declared.source.Source.{Source}
use Rattle.ipx_tables.specs.Listing.{IsListing}
use Rattle.ipx_tables.specs.Route.{network_cmp, route_before}
use Rattle.ipx_tables.specs.Service.{service_before, service_key_cmp}
use Rattle.ipx_router.specs.declared.port.Port.{Port}
use Rattle.ipx_router.specs.declared.port.PortNow.{PortNow}
use Rattle.ipx_router.specs.AdvertisedEntries.{IsAdvertisedRoute, IsAdvertisedService, advertised_route}
use Rattle.ipx_router.specs.Knowledge.{Routes, Services}
use Rattle.ipx_router.specs.Placing.{advertised_of_other_ports, is_advertised_item, is_advertised_port, no_way}
use Rattle.ipx_router.specs.RouterPackets.{AreRoutePackets, AreServicePackets, SendingView, all_nodes}

-- an entry with 16 hops, and all else as it was
abbrev pub gone_route : RipEntry → RipEntry
gone_route e = record { network = e.network; hops = 16; ticks = e.ticks }

abbrev pub gone_service : ServiceEntry → ServiceEntry
gone_service e = record { kind = e.kind; name = e.name; at = e.at; hops = 16 }

-- the best offers of networks and of services, by key
abbrev pub BestRoutes : Type 0
BestRoutes = List (Network × Source × RouteMetric)

abbrev pub BestServices : Type 0
BestServices = List (ServiceKey × Source × ServiceMetric)

-- a port with its number, at a time
abbrev pub port_at : ℕ → Port → ℕ → PortNow
port_at number port now = record { number = number; port = port; now = now }

module _ (ports : List Port) (number : ℕ) (port : Port) where
  -- what is advertised on the port of this number: the networks of the other ports, which are no hop away
  abbrev pub networks_of_others : List RipEntry
  networks_of_others = map (λ p. advertised_route p.network no_way (port_at number port 0))
      (filter (λ p. is_advertised_port ports (port_at number port 0) p.network) ports)

  -- and the networks whose best offers came by another port, and then both
  abbrev pub networks_by_others : BestRoutes → List RipEntry
  networks_by_others heard = map (λ item. advertised_route item.0 item.2 (port_at number port 0))
      (filter (is_advertised_item ports (port_at number port 0)) heard)

  abbrev pub advertised_networks : BestRoutes → List RipEntry
  advertised_networks heard = networks_of_others ++ networks_by_others heard

  -- the packets for the port: its routes, a packet for each 50, and then its services, a packet for each 7
  abbrev pub AreFarewell : BestRoutes → BestServices → List SendingView → Type 0
  AreFarewell heard offered sent = (of_routes of_services : List SendingView)
      × (sent ≡ of_routes ++ of_services)
      × AreRoutePackets (all_nodes number port rip_socket) (map gone_route (advertised_networks heard)) of_routes
      × AreServicePackets (all_nodes number port sap_socket) false
      (map gone_service (advertised_of_other_ports number offered)) of_services

-- ---- what is said is what was advertised

-- of the best offers of a router at a time, this is exactly what it advertises on a port then
abbrev pub FarewellIsOfAdvertised : Type 0
FarewellIsOfAdvertised = (ports : List Port) (routes : Routes) (services : Services) (number : ℕ) (port : Port)
    (now : ℕ) (heard : BestRoutes) (offered : BestServices)
    → IsListing network_cmp route_before routes now heard
    → IsListing service_key_cmp service_before services now offered
    → ((e : RipEntry) → Contains (advertised_networks ports number port heard) e
    ↔ IsAdvertisedRoute ports routes (port_at number port now) e)
    × ((e : ServiceEntry) → Contains (advertised_of_other_ports number offered) e
    ↔ IsAdvertisedService services (port_at number port now) e)
