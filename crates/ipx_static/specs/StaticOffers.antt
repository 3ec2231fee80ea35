-- What a router knows after it received static advertisements. The entry points are `StaticRoutesAreOffers`
-- and `StaticServicesAreOffers`, and `StaticRoutesAreRefreshed` and `StaticServicesAreRefreshed` for
-- advertisements that come again.
use Rattle.std.specs.Prelude.{◌≡◌, ◌≢◌, ◌<◌, ◌+◌, ◌^◌, ℕ, true, List, All, Contains, Option, Some}
use Rattle.ipx_control.specs.declared.rip.packet.RipEntry.{RipEntry}
use Rattle.ipx_control.specs.declared.sap.packet.ServiceEntry.{ServiceEntry}
use Rattle.ipx_tables.specs.declared.source.Source.{Source}
use Rattle.ipx_tables.specs.Content.{is_young}
use Rattle.ipx_router.specs.declared.port.Port.{Port}
use Rattle.ipx_router.specs.Hearing.{is_heard, route_metric, service_metric}
use Rattle.ipx_router.specs.Knowledge.{routes_in, services_in}
use Rattle.ipx_router.specs.Ports.{IsPort}
use Rattle.ipx_router.specs.Advertisements.{is_due}
use Rattle.ipx_router.specs.AdvertisedEntries.{key_of_service, route_key}
use Rattle.ipx_carrier.specs.PriorityRouterCore.{PriorityCoreView, PriorityHears}
use Rattle.ipx_static.specs.declared.neighbour.StaticNeighbour.{StaticNeighbour}
use Rattle.ipx_static.specs.WithStatics.{WithStaticsView, HearsIfDue}
use Rattle.ipx_static.specs.StaticAdvertisements.{AreStaticAdvertisements}

-- the source of a neighbour's advertisements
abbrev pub static_source : StaticNeighbour → Source
static_source n = record { port = n.port; neighbour = n.node }

-- its port exists, and it is not the router itself
abbrev pub IsAnotherNode : List Port → StaticNeighbour → Type 0
IsAnotherNode ports n = (at : Port) × IsPort ports n.port at × (n.node ≢ at.node)

-- a router receives the advertisements of these neighbours, because they are due
pub record HearsWithStatics (ns : List StaticNeighbour) (now : ℕ) (old new : WithStaticsView PriorityCoreView) : Type 0 where
  pub advertisements : AreStaticAdvertisements ns old.advertisements
  pub others : All (IsAnotherNode old.core.router.ports) ns
  pub due : is_due old.refreshed_at now ≡ true
  pub heard : HearsIfDue PriorityHears old now new

-- a router finds no table full: its count of that stays, and is not at the greatest
pub record FindsSpace (old new : PriorityCoreView) : Type 0 where
  pub room : new.outcomes.table_full ≡ old.outcomes.table_full
  pub countable : old.outcomes.table_full + 1 < 2 ^ 64

-- all entries of a list with the key of an entry have its metric
abbrev pub AdvertisesNoOther : {E K M : Type 0} → (E → K) → (E → M) → List E → E → Type 0
AdvertisesNoOther {E} key_of metric_of entries e =
    (x : E) → Contains entries x → key_of x ≡ key_of e → metric_of x ≡ metric_of e

-- no static neighbour with the same source advertises another metric for the key of an entry
abbrev pub IsAdvertisedAlone : {E K M : Type 0} → (E → K) → (E → M) → (StaticNeighbour → List E)
    → List StaticNeighbour → StaticNeighbour → E → Type 0
IsAdvertisedAlone key_of metric_of said_by ns n e = (m : StaticNeighbour) → Contains ns m
    → static_source m ≡ static_source n → AdvertisesNoOther key_of metric_of (said_by m) e

-- then, if no table is full, each static route that the router may learn is an offer of its neighbour,
-- learned at this time. This holds for routes of under 16 hops, if no other static entry of that source says
-- something else of the network
abbrev pub StaticRoutesAreOffers : Type 0
StaticRoutesAreOffers = (ns : List StaticNeighbour) (now : ℕ) (old new : WithStaticsView PriorityCoreView)
    → HearsWithStatics ns now old new → FindsSpace old.core new.core
    → (n : StaticNeighbour) → Contains ns n → (e : RipEntry) → Contains n.routes.items e
    → IsAdvertisedAlone route_key route_metric (λ m. m.routes.items) ns n e
    → is_heard old.core.router.ports e ≡ true → e.hops < 16
    → routes_in new.core.router.routes (e.network, static_source n) ≡ Some (route_metric e, now)

-- the same for each of its services
abbrev pub StaticServicesAreOffers : Type 0
StaticServicesAreOffers = (ns : List StaticNeighbour) (now : ℕ) (old new : WithStaticsView PriorityCoreView)
    → HearsWithStatics ns now old new → FindsSpace old.core new.core
    → (n : StaticNeighbour) → Contains ns n → (e : ServiceEntry) → Contains n.services.items e
    → IsAdvertisedAlone key_of_service service_metric (λ m. m.services.items) ns n e
    → e.hops < 16
    → services_in new.core.router.services (key_of_service e, static_source n) ≡ Some (service_metric e, now)

-- an offer with this metric counts at a given time
abbrev pub Counts : {M : Type 0} → M → ℕ → Option (M × ℕ) → Type 0
Counts metric now offer = (heard : ℕ) × (offer ≡ Some (metric, heard)) × (is_young now heard ≡ true)

-- an entry that is there needs no room. If all static routes of a neighbour are offers that count, each is
-- learned anew, however full tables are. This holds if no other static entry of that source says something
-- else of their networks
abbrev pub StaticRoutesAreRefreshed : Type 0
StaticRoutesAreRefreshed = (ns : List StaticNeighbour) (now : ℕ) (old new : WithStaticsView PriorityCoreView)
    → HearsWithStatics ns now old new → (n : StaticNeighbour) → Contains ns n
    → ((x : RipEntry) → Contains n.routes.items x
    → IsAdvertisedAlone route_key route_metric (λ m. m.routes.items) ns n x)
    → ((x : RipEntry) → Contains n.routes.items x → is_heard old.core.router.ports x ≡ true → x.hops < 16
    → Counts (route_metric x) now (routes_in old.core.router.routes (x.network, static_source n)))
    → (e : RipEntry) → Contains n.routes.items e → is_heard old.core.router.ports e ≡ true → e.hops < 16
    → routes_in new.core.router.routes (e.network, static_source n) ≡ Some (route_metric e, now)

-- the same for services
abbrev pub StaticServicesAreRefreshed : Type 0
StaticServicesAreRefreshed = (ns : List StaticNeighbour) (now : ℕ) (old new : WithStaticsView PriorityCoreView)
    → HearsWithStatics ns now old new → (n : StaticNeighbour) → Contains ns n
    → ((x : ServiceEntry) → Contains n.services.items x
    → IsAdvertisedAlone key_of_service service_metric (λ m. m.services.items) ns n x)
    → ((x : ServiceEntry) → Contains n.services.items x → x.hops < 16
    → Counts (service_metric x) now (services_in old.core.router.services (key_of_service x, static_source n)))
    → (e : ServiceEntry) → Contains n.services.items e → e.hops < 16
    → services_in new.core.router.services (key_of_service e, static_source n) ≡ Some (service_metric e, now)
