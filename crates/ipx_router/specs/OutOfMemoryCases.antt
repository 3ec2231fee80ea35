-- When a router may run out of memory for bytes that come in on a port, and what it holds after that. The
-- entry points are `RunsOutOfMemory` and `RunsOutOfMemoryInPlace`, at the end.
use Rattle.std.specs.Prelude.{◌≡◌, ◌≢◌, ◌<◌, ◌⊎◌, ℕ, Bool, true, Contains, List}
use Rattle.ipx_wire.specs.declared.address.Network.{Network}
use Rattle.ipx_wire.specs.declared.ipx.packet.IpxHeader.{IpxHeader}
use Rattle.ipx_wire.specs.Assigned.{all_networks}
use Rattle.ipx_wire.specs.Ipx.{BeginsWith, PacketView, IsIpx}
use Rattle.ipx_control.specs.declared.rip.packet.RipEntry.{RipEntry}
use Rattle.ipx_control.specs.declared.sap.packet.ServiceEntry.{ServiceEntry}
use Rattle.ipx_control.specs.Rip.{RipView, IsRip}
use Rattle.ipx_control.specs.Rip as rip
use Rattle.ipx_control.specs.Sap.{SapView, IsSap}
use Rattle.ipx_control.specs.Sap as sap
use Rattle.ipx_tables.specs.declared.route.RouteMetric.{RouteMetric}
use Rattle.ipx_tables.specs.declared.service.ServiceKey.{ServiceKey}
use Rattle.ipx_tables.specs.declared.service.ServiceMetric.{ServiceMetric}
use Rattle.ipx_tables.specs.declared.source.Source.{Source}
use Rattle.ipx_tables.specs.Content.{Table}
use Rattle.ipx_router.specs.declared.classify.PacketClass.{PacketClass}
use Rattle.ipx_router.specs.declared.classify.PacketClass.TheVariants as classes
use Rattle.ipx_router.specs.declared.port.Port.{Port}
use Rattle.ipx_router.specs.declared.port.PortNow.{PortNow}
use Rattle.ipx_router.specs.declared.route.Route.{Route}
use Rattle.ipx_router.specs.RouterView.{RouterView}
use Rattle.ipx_router.specs.Knowledge.{HoldsKnown, HoldsRoutes, HoldsServices, Known, Routes, Services, Tables, known_at, tables}
use Rattle.ipx_router.specs.Ports.{IsPort}
use Rattle.ipx_router.specs.RouteChoice.{IsRouteTo}
use Rattle.ipx_router.specs.AdvertisedEntries.{IsAdvertisedRoute, IsAdvertisedService}
use Rattle.ipx_router.specs.Classify.{class_of}
use Rattle.ipx_router.specs.Replying.{is_asked}
use Rattle.ipx_router.specs.Hearing.{AtEntry, GrowsByRoute, GrowsByService, HeardRoutes, HeardServices, source_of}

-- an entry of a response was not learned, since the table had to grow for it. Those before it were handled,
-- and the others were not
abbrev pub HearingRoutesOutOfMemory : List Port → Routes → Source → ℕ → List RipEntry
    → Table Network RouteMetric → Type 0
HearingRoutesOutOfMemory ports routes source now entries new =
    (n : ℕ) × HeardRoutes ports source now entries routes n new
    × AtEntry entries n (GrowsByRoute ports source new)

abbrev pub HearingServicesOutOfMemory : Services → Source → ℕ → List ServiceEntry
    → Table ServiceKey ServiceMetric → Type 0
HearingServicesOutOfMemory services source now entries new =
    (n : ℕ) × HeardServices source now entries services n new
    × AtEntry entries n (GrowsByService source new)

-- an entry asks for a route: for the route to its network, or for all routes
abbrev pub AsksForRoute : RipEntry → RipEntry → Type 0
AsksForRoute asked told = (asked.network.0 ≡ all_networks) ⊎ (told.network ≡ asked.network)

-- some route is to be sent: it is advertised on the port, and asked for
abbrev pub HasRouteToReply : List Port → Routes → PortNow → List RipEntry → Type 0
HasRouteToReply ports routes at asked = (e t : RipEntry) × Contains asked e
    × IsAdvertisedRoute ports routes at t × AsksForRoute e t

abbrev pub RipMessageOutOfMemory : List Port → Routes → PortNow → IpxHeader → RipView
    → Table Network RouteMetric → Type 0
RipMessageOutOfMemory ports routes at h (rip.Request asked) new =
    HasRouteToReply ports routes at asked × HoldsRoutes new routes
RipMessageOutOfMemory ports routes at h (rip.Response entries) new =
    HearingRoutesOutOfMemory ports routes (source_of at h) at.now entries new

-- some service is to be sent
abbrev pub HasToReply : Services → PortNow → Bool → ℕ → Type 0
HasToReply services at nearest kind =
    (e : ServiceEntry) × IsAdvertisedService services at e × (is_asked nearest kind e ≡ true)

abbrev pub SapMessageOutOfMemory : Services → PortNow → IpxHeader → SapView
    → Table ServiceKey ServiceMetric → Type 0
SapMessageOutOfMemory services at h (sap.Query nearest kind) new =
    HasToReply services at nearest kind × HoldsServices new services
SapMessageOutOfMemory services at h (sap.Response nearest entries) new =
    HearingServicesOutOfMemory services (source_of at h) at.now entries new

-- only a body that is a RIP or SAP packet needs memory
abbrev pub RipOutOfMemory : List Port → Routes → PortNow → PacketView
    → Table Network RouteMetric → Type 0
RipOutOfMemory ports routes at d new = (m : RipView) × (tail : List ℕ) × IsRip m d.body tail
    × RipMessageOutOfMemory ports routes at d.header m new

abbrev pub SapOutOfMemory : Services → PortNow → PacketView → Table ServiceKey ServiceMetric
    → Type 0
SapOutOfMemory services at d new = (m : SapView) × (tail : List ℕ) × IsSap m d.body tail
    × SapMessageOutOfMemory services at d.header m new

-- a packet for another network is to be forwarded: there is a route, and fewer than fifteen routers have
-- forwarded it
pub record HasToForward (ports : List Port) (routes : Routes) (at : PortNow)
    (h : IpxHeader) : Type 0 where
  pub route : Route
  pub leads : IsRouteTo ports routes at.now h.to.network route
  pub hops : h.hops < 15

-- a packet that is dropped by its header needs no memory
abbrev pub ClassOutOfMemory : Known → PortNow → PacketView → Tables → PacketClass → Type 0
ClassOutOfMemory k at d new (classes.Dropped reason) = ⊥
ClassOutOfMemory k at d new classes.Rip =
    RipOutOfMemory k.ports k.routes at d new.0 × HoldsServices new.1 k.services
ClassOutOfMemory k at d new classes.Sap =
    SapOutOfMemory k.services at d new.1 × HoldsRoutes new.0 k.routes
ClassOutOfMemory k at d new classes.Forward =
    HasToForward k.ports k.routes at d.header × HoldsKnown k new

abbrev pub BytesOutOfMemory : Known → PortNow → List ℕ → Tables → Type 0
BytesOutOfMemory k at bytes new = (d : PacketView) × (tail : List ℕ) × IsIpx d bytes tail
    × ClassOutOfMemory k at d new (class_of at.port d.header)

-- when a router may run out of memory for bytes that come in on its port of this number at a time, and the
-- offers that it holds after that
abbrev pub RunsOutOfMemory : RouterView → ℕ → List ℕ → ℕ → RouterView → Type 0
RunsOutOfMemory old port bytes now new = (arrived : Port) × IsPort old.ports port arrived
    × BytesOutOfMemory (known_at old now) (record { number = port; port = arrived; now = now })
    bytes (tables new)

-- no packet that bytes begin with is for another network
abbrev pub NoneIsOnward : Port → List ℕ → Type 0
NoneIsOnward arrived bytes =
    (d : PacketView) → BeginsWith bytes d → class_of arrived d.header ≢ classes.Forward

abbrev pub BytesOutOfMemoryInPlace : Known → PortNow → List ℕ → Tables → Type 0
BytesOutOfMemoryInPlace k at bytes new = NoneIsOnward at.port bytes × BytesOutOfMemory k at bytes new

-- the same if the router may change the bytes: a packet for another network needs no memory
abbrev pub RunsOutOfMemoryInPlace : RouterView → ℕ → List ℕ → ℕ → RouterView → Type 0
RunsOutOfMemoryInPlace old port bytes now new = (arrived : Port) × IsPort old.ports port arrived
    × BytesOutOfMemoryInPlace (known_at old now)
    (record { number = port; port = arrived; now = now }) bytes (tables new)
