-- What a router advertises to its neighbours, and when.
use Rattle.std.specs.Prelude.{◌≡◌, ◌⊎◌, ℕ, ◌+◌, ◌-◌, ◌^◌, ◌<◌, Bool, true, false, List, [], ◌∷◌, ◌++◌, Option, Some, None, nat_le, MatchBool}
use Rattle.ipx_wire.specs.Assigned.{rip_socket, sap_socket}
use Rattle.ipx_control.specs.declared.rip.packet.RipEntry.{RipEntry}
use Rattle.ipx_control.specs.declared.sap.packet.ServiceEntry.{ServiceEntry}
use Rattle.ipx_router.specs.declared.port.Port.{Port}
use Rattle.ipx_router.specs.declared.port.PortNow.{PortNow}
use Rattle.ipx_router.specs.Knowledge.{Known, Routes, Services}
use Rattle.ipx_router.specs.AdvertisedEntries.{AreAdvertisedRoutes, AreAdvertisedServices, IsAdvertisedRoute, IsAdvertisedService}
use Rattle.ipx_router.specs.RouterPackets.{SendingView, AreRoutePackets, AreServicePackets, all_nodes}
use Rattle.ipx_router.specs.Ports.{IsPort}

-- the packets that advertise what is known on one port: routes, followed by services
pub record AreAdvertised (ports : List Port) (routes : Routes) (services : Services) (at : PortNow)
    (sent : List SendingView) : Type 0 where
  pub advertised_routes : List RipEntry
  pub advertised_services : List ServiceEntry
  pub route_packets : List SendingView
  pub service_packets : List SendingView
  pub are : sent ≡ route_packets ++ service_packets
  pub of_routes : AreAdvertisedRoutes ports routes at advertised_routes
  pub of_services : AreAdvertisedServices services at advertised_services
  pub in_route_packets :
      AreRoutePackets (all_nodes at.number at.port rip_socket) advertised_routes route_packets
  pub in_service_packets :
      AreServicePackets (all_nodes at.number at.port sap_socket) false advertised_services service_packets

-- the packets of each port; the ports are numbered from a first number on
abbrev pub AreAdvertisements : List Port → Routes → Services → ℕ → ℕ → List Port → List SendingView
    → Type 0
AreAdvertisements ports routes services now number [] sent = sent ≡ []
AreAdvertisements ports routes services now number (port ∷ later) sent =
    (first rest : List SendingView) × (sent ≡ first ++ rest)
    × AreAdvertised ports routes services (record { number = number; port = port; now = now }) first
    × AreAdvertisements ports routes services now (number + 1) later rest

-- an advertisement is due at once, and then a minute after the last
abbrev pub is_due : Option ℕ → ℕ → Bool
is_due None now = true
is_due (Some last) now = nat_le 60000 (now - last)

-- an advertisement is due from this time on, and not before. Without such a time, none is due at any 64-bit
-- time
abbrev pub IsNextAdvertisement : Option ℕ → Option ℕ → Type 0
IsNextAdvertisement last None = (now : ℕ) → now < 2 ^ 64 → is_due last now ≡ false
IsNextAdvertisement last (Some t) = (now : ℕ) → is_due last now ≡ nat_le t now

-- the packets that advertise what a router knows, if it is due, and the time of the last advertisement then
abbrev pub TellsIfDue : Known → Option ℕ → ℕ → List SendingView → Option ℕ → Type 0
TellsIfDue k last now sent told = MatchBool (is_due last now)
    (AreAdvertisements k.ports k.routes k.services now 1 k.ports sent × (told ≡ Some now))
    ((sent ≡ []) × (told ≡ last))

-- a route or a service is to be advertised on a port
abbrev pub IsSomeAdvertised : Known → PortNow → Type 0
IsSomeAdvertised k at = ((e : RipEntry) × IsAdvertisedRoute k.ports k.routes at e)
    ⊎ ((e : ServiceEntry) × IsAdvertisedService k.services at e)

-- on some port there is something to advertise
abbrev pub HasToTell : Known → ℕ → Type 0
HasToTell k now = (number : ℕ) × (port : Port) × IsPort k.ports number port
    × IsSomeAdvertised k (record { number = number; port = port; now = now })
