-- What a router learns from the entries of a RIP or SAP response.
use Rattle.std.specs.Prelude.{◌≡◌, ◌≤◌, ℕ, ◌==◌, ◌||◌, Bool, true, not, List, length, take, slice_get, Some, fold, if◌then◌else◌}
use Rattle.std.specs.declared.cmp.Ordering.{Ordering}
use Rattle.std.specs.List.{list_any}
use Rattle.ipx_wire.specs.declared.address.Network.{Network}
use Rattle.ipx_wire.specs.declared.ipx.packet.IpxHeader.{IpxHeader}
use Rattle.ipx_wire.specs.Assigned.{all_networks, local_network}
use Rattle.ipx_control.specs.declared.rip.packet.RipEntry.{RipEntry}
use Rattle.ipx_control.specs.declared.sap.packet.ServiceEntry.{ServiceEntry}
use Rattle.ipx_tables.specs.declared.route.RouteMetric.{RouteMetric}
use Rattle.ipx_tables.specs.declared.service.ServiceKey.{ServiceKey}
use Rattle.ipx_tables.specs.declared.service.ServiceMetric.{ServiceMetric}
use Rattle.ipx_tables.specs.declared.source.Source.{Source}
use Rattle.ipx_tables.specs.Content.{Content, Table, after_hear, content}
use Rattle.ipx_tables.specs.Room.{Fits, Grows, IsFull}
use Rattle.ipx_tables.specs.Route.{network_cmp, route_dead}
use Rattle.ipx_tables.specs.Service.{service_dead, service_key_cmp}
use Rattle.ipx_router.specs.declared.port.Port.{Port}
use Rattle.ipx_router.specs.declared.port.PortNow.{PortNow}
use Rattle.ipx_router.specs.Knowledge.{Routes, Services}
use Rattle.ipx_router.specs.AdvertisedEntries.{key_of_service}

-- the source of a response: the node that sent it, on the port that it came in on
abbrev pub source_of : PortNow → IpxHeader → Source
source_of at h = record { port = at.number; neighbour = h.from.node }

-- entries for network 0, for all networks, or for a port's own network are not learned
abbrev pub is_heard : List Port → RipEntry → Bool
is_heard ports e = not ((e.network.0 == local_network) || (e.network.0 == all_networks)
    || list_any (λ p. p.network.0 == e.network.0) ports)

abbrev pub route_metric : RipEntry → RouteMetric
route_metric e = record { ticks = e.ticks; hops = e.hops }

abbrev pub service_metric : ServiceEntry → ServiceMetric
service_metric e = record { hops = e.hops; at = e.at }

module _ (ports : List Port) (source : Source) (now : ℕ) where
  -- what is known after an entry, whether it was learned or not
  abbrev pub after_route : Routes → RipEntry → Routes
  after_route routes e =
      if is_heard ports e
      then after_hear network_cmp route_dead routes (e.network, source) (route_metric e) now
      else routes

  abbrev pub after_routes : Routes → List RipEntry → Routes
  after_routes = fold after_route

module _ (source : Source) (now : ℕ) where
  abbrev pub after_service : Services → ServiceEntry → Services
  after_service services e =
      after_hear service_key_cmp service_dead services
      (key_of_service e, source) (service_metric e) now

  abbrev pub after_services : Services → List ServiceEntry → Services
  after_services = fold after_service

-- the first n entries were handled, each of them fitted in the table, and the others were not handled
pub record HeardFirst {K M E : Type 0} (cmp : K → K → Ordering) (after : List E → Content K M)
    (entries : List E) (n : ℕ) (new : Table K M) : Type 0 where
  pub within : n ≤ length entries
  pub room : (m : ℕ) → m ≤ n → Fits cmp new.capacity (after (take m entries))
  pub holds : (p : K × Source) → content cmp new.offers p ≡ after (take n entries) p

abbrev pub HeardRoutes : List Port → Source → ℕ → List RipEntry → Routes → ℕ
    → Table Network RouteMetric → Type 0
HeardRoutes ports source now entries routes =
    HeardFirst network_cmp (after_routes ports source now routes) entries

abbrev pub HeardServices : Source → ℕ → List ServiceEntry → Services → ℕ
    → Table ServiceKey ServiceMetric → Type 0
HeardServices source now entries services =
    HeardFirst service_key_cmp (after_services source now services) entries

-- there is an entry at this index, and the fact holds of it
pub record AtEntry {E : Type 0} (entries : List E) (place : ℕ) (Fact : E → Type 0) : Type 0 where
  pub entry : E
  pub there : slice_get entries place ≡ Some entry
  pub holds : Fact entry

-- the entry is to be learned, and the table is full for it
abbrev pub IsFullForRoute : List Port → Source → Table Network RouteMetric → RipEntry → Type 0
IsFullForRoute ports source t e = (is_heard ports e ≡ true)
    × IsFull network_cmp route_dead t (e.network, source) (route_metric e)

abbrev pub IsFullForService : Source → Table ServiceKey ServiceMetric → ServiceEntry → Type 0
IsFullForService source t e =
    IsFull service_key_cmp service_dead t (key_of_service e, source) (service_metric e)

-- the entry is to be learned, and the table has to grow for it
abbrev pub GrowsByRoute : List Port → Source → Table Network RouteMetric → RipEntry → Type 0
GrowsByRoute ports source t e = (is_heard ports e ≡ true)
    × Grows network_cmp route_dead t (e.network, source) (route_metric e)

abbrev pub GrowsByService : Source → Table ServiceKey ServiceMetric → ServiceEntry → Type 0
GrowsByService source t e =
    Grows service_key_cmp service_dead t (key_of_service e, source) (service_metric e)
