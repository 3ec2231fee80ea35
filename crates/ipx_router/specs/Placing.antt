-- Definitions for the private functions that list the advertised routes and services.
use Rattle.std.specs.Prelude.{◌≡◌, ◌<◌, ◌⊎◌, ℕ, ◌+◌, ◌==◌, ◌&&◌, Bool, true, false, not, List, filter, map, slice_index_or, Option, Some, None, is_none, Contains, nat_lt}
use Rattle.ipx_wire.specs.declared.address.Network.{Network}
use Rattle.ipx_control.specs.declared.rip.packet.RipEntry.{RipEntry}
use Rattle.ipx_tables.specs.declared.route.RouteMetric.{RouteMetric}
use Rattle.ipx_control.specs.declared.sap.packet.ServiceEntry.{ServiceEntry}
use Rattle.ipx_tables.specs.declared.service.ServiceKey.{ServiceKey}
use Rattle.ipx_tables.specs.declared.service.ServiceMetric.{ServiceMetric}
use Rattle.ipx_tables.specs.declared.source.Source.{Source}
use Rattle.ipx_tables.specs.Route.{network_cmp}
use Rattle.ipx_tables.specs.Sorted.{IsRising}
use Rattle.ipx_router.specs.declared.port.Port.{Port}
use Rattle.ipx_router.specs.declared.port.PortNow.{PortNow}
use Rattle.ipx_router.specs.RouteChoice.{direct_route}
use Rattle.ipx_router.specs.AdvertisedEntries.{route_key, advertised_route, advertised_service}

-- the list has an entry of the network
abbrev pub HasNetwork : List RipEntry → Network → Type 0
HasNetwork told network = (x : RipEntry) × Contains told x × (x.network ≡ network)

-- the list stays in order and gains only this entry, unless it has one of that network
pub record PutsEntry (old : List RipEntry) (entry : RipEntry) (new : List RipEntry) : Type 0 where
  pub in_order : IsRising network_cmp route_key new
  pub keeps : (x : RipEntry) → Contains old x → Contains new x
  pub only : (x : RipEntry) → Contains new x → Contains old x ⊎ (x ≡ entry)
  pub there : HasNetwork new entry.network

abbrev pub is_elsewhere : Option ℕ → ℕ → Bool
is_elsewhere None number = false
is_elsewhere (Some place) number = not (place + 1 == number)

-- the route to the network leaves by another port that is on it
abbrev pub is_advertised_port : List Port → PortNow → Network → Bool
is_advertised_port ports at network = is_elsewhere (direct_route ports network) at.number

abbrev pub no_way : RouteMetric
no_way = record { ticks = 0; hops = 0 }

abbrev pub IsAdvertisedPort : List Port → PortNow → RipEntry → Type 0
IsAdvertisedPort ports at x =
    (is_advertised_port ports at x.network ≡ true) × (x ≡ advertised_route x.network no_way at)

-- the networks of the first n ports, without those that are not advertised
pub record AreAdvertisedPorts (ports : List Port) (at : PortNow) (n : ℕ)
    (told : List RipEntry) : Type 0 where
  pub in_order : IsRising network_cmp route_key told
  pub only : (x : RipEntry) → Contains told x → IsAdvertisedPort ports at x
  pub all : (k : ℕ) (d : Port) → k < n
      → is_advertised_port ports at (slice_index_or ports k d).network ≡ true
      → HasNetwork told (slice_index_or ports k d).network

-- the best offer is a route, and came by another port
abbrev pub is_advertised_item : List Port → PortNow → Network × Source × RouteMetric → Bool
is_advertised_item ports at item = is_none (direct_route ports item.0) && not (item.1.port == at.number)

abbrev pub IsAdvertisedItem : List Port → PortNow → List (Network × Source × RouteMetric)
    → RipEntry → Type 0
IsAdvertisedItem ports at heard x = (item : Network × Source × RouteMetric) × Contains heard item
    × (is_advertised_item ports at item ≡ true) × (x ≡ advertised_route item.0 item.2 at)

-- of the first n best offers, those that are advertised were added
pub record AddsHeard (ports : List Port) (at : PortNow)
    (heard : List (Network × Source × RouteMetric)) (n : ℕ) (old new : List RipEntry) : Type 0 where
  pub in_order : IsRising network_cmp route_key new
  pub keeps : (x : RipEntry) → Contains old x → Contains new x
  pub only : (x : RipEntry) → Contains new x → Contains old x ⊎ IsAdvertisedItem ports at heard x
  pub all : (k : ℕ) (d : Network × Source × RouteMetric) → k < n
      → is_advertised_item ports at (slice_index_or heard k d) ≡ true
      → HasNetwork new (slice_index_or heard k d).0

-- an entry of a lower network
abbrev pub is_below : Network → RipEntry → Bool
is_below network entry = nat_lt entry.network.0 network.0

-- the services that came by another port than this one, as they are advertised
abbrev pub advertised_of_other_ports : ℕ → List (ServiceKey × Source × ServiceMetric) → List ServiceEntry
advertised_of_other_ports number heard = map advertised_service (filter (λ item. not (item.1.port == number)) heard)
