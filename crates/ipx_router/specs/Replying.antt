-- Replies to a request for routes, and to a query for services.
use Rattle.std.specs.Prelude.{◌≡◌, ◌≢◌, ◌⊎◌, ℕ, ◌==◌, ◌||◌, ◌&&◌, Bool, true, false, List, [], ◌∷◌, MatchBool, nat_lt, if◌then◌else◌}
use Rattle.std.specs.List.{list_any}
use Rattle.std.specs.declared.cmp.Ordering.{Ordering}
use Rattle.std.specs.Ordering.{ordering_then, nat_cmp, is_lt}
use Rattle.std.specs.Cmp.Lexicographic.{slice_cmp}
use Rattle.ipx_wire.specs.Assigned.{all_networks}
use Rattle.ipx_control.specs.declared.rip.packet.RipEntry.{RipEntry}
use Rattle.ipx_control.specs.declared.sap.packet.ServiceEntry.{ServiceEntry}
use Rattle.ipx_tables.specs.Service.{address_cmp, service_key_cmp}
use Rattle.ipx_router.specs.declared.packets.Recipient.{Recipient}
use Rattle.ipx_router.specs.declared.port.Port.{Port}
use Rattle.ipx_router.specs.declared.port.PortNow.{PortNow}
use Rattle.ipx_router.specs.Knowledge.{Routes, Services}
use Rattle.ipx_router.specs.RouterPackets.{AreRoutePackets, AreServicePackets, SendingView}
use Rattle.ipx_router.specs.AdvertisedEntries.{AreAdvertisedRoutes, IsListOf, IsAdvertisedRoute, IsAdvertisedService, key_of_service}

-- an entry for network FFFFFFFF asks for all
abbrev pub asks_all : List RipEntry → Bool
asks_all = list_any (λ e. e.network.0 == all_networks)

-- what is advertised of the asked networks, in the order asked, without those of which nothing is advertised
abbrev pub AreAdvertisedOf : (RipEntry → Type 0) → List RipEntry → List RipEntry → Type 0
AreAdvertisedOf IsAdvertised [] entries = entries ≡ []
AreAdvertisedOf IsAdvertised (e ∷ asked) entries =
    ((t : RipEntry) × (rest : List RipEntry) × (entries ≡ t ∷ rest)
    × IsAdvertised t × (t.network ≡ e.network) × AreAdvertisedOf IsAdvertised asked rest)
    ⊎ (((t : RipEntry) → IsAdvertised t → t.network ≢ e.network) × AreAdvertisedOf IsAdvertised asked entries)

-- the advertised routes that a request asks for
abbrev pub AreRoutesAsked : List Port → Routes → PortNow → List RipEntry → List RipEntry → Type 0
AreRoutesAsked ports routes at asked entries = MatchBool (asks_all asked)
    (AreAdvertisedRoutes ports routes at entries)
    (AreAdvertisedOf (IsAdvertisedRoute ports routes at) asked entries)

-- the packets that answer a request
pub record RepliesRoutes (ports : List Port) (routes : Routes) (at : PortNow) (to : Recipient)
    (asked : List RipEntry) (sent : List SendingView) : Type 0 where
  pub entries : List RipEntry
  pub are : AreRoutesAsked ports routes at asked entries
  pub packets : AreRoutePackets to entries sent

-- a service of the kind asked for; kind FFFF asks for every kind
abbrev pub is_of_kind : ℕ → ServiceEntry → Bool
is_of_kind kind e = (kind == 65535) || (e.kind == kind)

-- by hops, name, address and kind
abbrev pub nearness : ServiceEntry → ServiceEntry → Ordering
nearness a b =
    ordering_then (nat_cmp a.hops b.hops)
    (ordering_then (slice_cmp nat_cmp a.name b.name)
    (ordering_then (address_cmp a.at b.at) (nat_cmp a.kind b.kind)))

abbrev pub is_nearer : ServiceEntry → ServiceEntry → Bool
is_nearer a b = is_lt (nearness a b)

-- a service of the kind is near if it is advertised with fewer than 16 hops
abbrev pub is_near : ℕ → ServiceEntry → Bool
is_near kind e = is_of_kind kind e && nat_lt e.hops 16

-- the nearest advertised service of a kind
pub record IsNearest (IsAdvertised : ServiceEntry → Type 0) (kind : ℕ) (e : ServiceEntry) : Type 0 where
  pub told : IsAdvertised e
  pub near : is_near kind e ≡ true
  pub least : (x : ServiceEntry) → IsAdvertised x → is_near kind x ≡ true → is_nearer x e ≡ false

abbrev pub NoneIsNear : (ServiceEntry → Type 0) → ℕ → Type 0
NoneIsNear IsAdvertised kind = (x : ServiceEntry) → IsAdvertised x → is_near kind x ≡ false

abbrev pub AreNearest : (ServiceEntry → Type 0) → ℕ → List ServiceEntry → Type 0
AreNearest IsAdvertised kind [] = NoneIsNear IsAdvertised kind
AreNearest IsAdvertised kind (e ∷ es) = IsNearest IsAdvertised kind e × (es ≡ [])

-- a query asks for a service: for each of the kind, or for those of the kind that are near
abbrev pub is_asked : Bool → ℕ → ServiceEntry → Bool
is_asked nearest kind e = if nearest then is_near kind e else is_of_kind kind e

-- the advertised services that a query asks for, by kind and name
abbrev pub AreServicesAsked : Services → PortNow → Bool → ℕ → List ServiceEntry → Type 0
AreServicesAsked services at nearest kind entries = MatchBool nearest
    (AreNearest (IsAdvertisedService services at) kind entries)
    (IsListOf service_key_cmp key_of_service
    (λ e. IsAdvertisedService services at e × (is_of_kind kind e ≡ true)) entries)

-- the packets that answer a query
pub record RepliesServices (services : Services) (at : PortNow) (to : Recipient)
    (nearest : Bool) (kind : ℕ) (sent : List SendingView) : Type 0 where
  pub entries : List ServiceEntry
  pub are : AreServicesAsked services at nearest kind entries
  pub packets : AreServicePackets to nearest entries sent
