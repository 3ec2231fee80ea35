-- A router with static neighbours, over a run of calls. The entry points are `StaticRoutesHold` and
-- `StaticServicesHold`, and `StaticsAreCountedSeparately` for a router that counts.
use Rattle.std.specs.Prelude.{◌≡◌, ◌≢◌, ◌⊎◌, ◌<◌, ◌≤◌, ◌+◌, ℕ, Bool, false, true, List, [], ◌∷◌, All, Contains, Option}
use Rattle.ipx_wire.specs.declared.address.Network.{Network}
use Rattle.ipx_wire.specs.Ipx.{IsIpx, PacketView}
use Rattle.ipx_control.specs.declared.rip.packet.RipEntry.{RipEntry}
use Rattle.ipx_control.specs.declared.sap.packet.ServiceEntry.{ServiceEntry}
use Rattle.ipx_control.specs.Rip.{IsRip}
use Rattle.ipx_control.specs.Rip as rip
use Rattle.ipx_control.specs.Sap.{IsSap}
use Rattle.ipx_control.specs.Sap as sap
use Rattle.ipx_tables.specs.declared.service.ServiceKey.{ServiceKey}
use Rattle.ipx_router.specs.declared.classify.PacketClass.{PacketClass}
use Rattle.ipx_router.specs.declared.classify.PacketClass.TheVariants as classes
use Rattle.ipx_router.specs.declared.port.Port.{Port}
use Rattle.ipx_router.specs.Classify.{class_of}
use Rattle.ipx_router.specs.Ports.{IsPort}
use Rattle.ipx_router.specs.Hearing.{is_heard, route_metric, service_metric}
use Rattle.ipx_router.specs.Knowledge.{routes_in, services_in}
use Rattle.ipx_router.specs.Advertisements.{is_due}
use Rattle.ipx_router.specs.AdvertisedEntries.{key_of_service, route_key}
use Rattle.ipx_carrier.specs.PriorityRouterCore.{PriorityCoreView, PriorityGives, PriorityHears}
use Rattle.ipx_carrier.specs.Turns.{Given}
use Rattle.ipx_metrics.specs.MeteredRouter.{CountedView, CountsAsItGives, CountsHeard, without_counts}
use Rattle.ipx_static.specs.declared.neighbour.StaticNeighbour.{StaticNeighbour}
use Rattle.ipx_static.specs.WithStatics.{WithStaticsView, GivesWithStatics, HearsUnder}
use Rattle.ipx_static.specs.StaticOffers.{Counts, FindsSpace, IsAnotherNode, IsAdvertisedAlone, static_source}
use Rattle.ipx_static.specs.StaticAdvertisements.{AreStaticAdvertisements}

-- bytes are received on a port; or the core is asked for a packet, and gives one or none; or it is to ask its
-- neighbours once more
pub data StaticCall : Type 0 where
  Comes : (port : ℕ) → (bytes : List ℕ) → StaticCall
  Asked : (given : Option Given) → StaticCall
  AsksOnceMore : StaticCall

pub record StaticCallAt : Type 0 where
  pub moment : ℕ
  pub call : StaticCall

-- what one call does, and what consecutive calls do
abbrev pub DoesStaticCall : ℕ → StaticCall → WithStaticsView PriorityCoreView → WithStaticsView PriorityCoreView → Type 0
DoesStaticCall now (Comes port bytes) old new = HearsUnder PriorityHears old port bytes now new
DoesStaticCall now (Asked given) old new = GivesWithStatics PriorityHears PriorityGives old now given new
DoesStaticCall now AsksOnceMore old new = new ≡ record old { core = record old.core { started = false } }

abbrev pub DoStaticCalls : List StaticCallAt → WithStaticsView PriorityCoreView → WithStaticsView PriorityCoreView → Type 0
DoStaticCalls [] old new = new ≡ old
DoStaticCalls (c ∷ cs) old new = (mid : WithStaticsView PriorityCoreView)
    × DoesStaticCall c.moment c.call old mid × DoStaticCalls cs mid new

-- when the core was last asked for a packet, after these calls
abbrev pub asked_by : ℕ → StaticCall → ℕ → ℕ
asked_by now (Comes port bytes) asked = asked
asked_by now (Asked given) asked = now
asked_by now AsksOnceMore asked = asked

abbrev pub asked_in : List StaticCallAt → ℕ → ℕ
asked_in [] asked = asked
asked_in (c ∷ cs) asked = asked_in cs (asked_by c.moment c.call asked)

-- each call is at most a minute after the core was last asked for a packet, and what is received satisfies
-- this condition
abbrev pub ComesAs : (ℕ → List ℕ → Type 0) → StaticCall → Type 0
ComesAs IsSuch (Comes port bytes) = IsSuch port bytes
ComesAs IsSuch (Asked given) = Unit {0}
ComesAs IsSuch AsksOnceMore = Unit {0}

abbrev pub IsAskedEachMinute : (ℕ → List ℕ → Type 0) → List StaticCallAt → ℕ → Type 0
IsAskedEachMinute IsSuch [] asked = Unit {0}
IsAskedEachMinute IsSuch (c ∷ cs) asked = (c.moment ≤ asked + 60000) × ComesAs IsSuch c.call
    × IsAskedEachMinute IsSuch cs (asked_by c.moment c.call asked)

-- bytes come in on the neighbour's port and are a packet of its node, which a router with these ports takes as
-- control of this kind: it is for this router or all nodes of that network, and for the socket of RIP or SAP
pub record IsControlOf (ports : List Port) (n : StaticNeighbour) (kind : PacketClass) (port : ℕ) (bytes : List ℕ)
    (p : PacketView) : Type 0 where
  pub on_port : port + 1 ≡ n.port
  pub arrived : Port
  pub there : IsPort ports (port + 1) arrived
  pub tail : List ℕ
  pub packet : IsIpx p bytes tail
  pub taken : class_of arrived p.header ≡ kind
  pub of_node : p.header.from.node ≡ n.node

-- that is a RIP response of the neighbour itself that names a network, or a SAP response of it that names a service
abbrev pub TellsItself : List Port → StaticNeighbour → Network → ℕ → List ℕ → Type 0
TellsItself ports n network port bytes = (p : PacketView) × IsControlOf ports n classes.Rip port bytes p
    × (entries : List RipEntry) × (rest : List ℕ) × IsRip (rip.Response entries) p.body rest
    × (x : RipEntry) × Contains entries x × (x.network ≡ network)

abbrev pub OffersItself : List Port → StaticNeighbour → ServiceKey → ℕ → List ℕ → Type 0
OffersItself ports n key port bytes = (p : PacketView) × IsControlOf ports n classes.Sap port bytes p
    × (nearest : Bool) × (entries : List ServiceEntry) × (rest : List ℕ)
    × IsSap (sap.Response nearest entries) p.body rest
    × (x : ServiceEntry) × Contains entries x × (key_of_service x ≡ key)

-- a run that begins by asking for a packet as advertisements are due, and finds no table full then
pub record RunsWithStatics (ns : List StaticNeighbour) (start : ℕ) (calls : List StaticCallAt)
    (old new : WithStaticsView PriorityCoreView) : Type 0 where
  pub advertisements : AreStaticAdvertisements ns old.advertisements
  pub others : All (IsAnotherNode old.core.router.ports) ns
  pub due : is_due old.refreshed_at start ≡ true
  pub given : Option Given
  pub first : WithStaticsView PriorityCoreView
  pub begins : DoesStaticCall start (Asked given) old first
  pub goes_on : DoStaticCalls calls first new
  pub room : FindsSpace old.core first.core

-- the entries of a neighbour on which an entry depends: itself, and all of them if a table was full in
-- between. A response is read up to the first entry that does not fit
abbrev pub DependsOn : {E : Type 0} → (old new : WithStaticsView PriorityCoreView) → E → E → Type 0
DependsOn old new e x = (x ≡ e) ⊎ (new.core.outcomes.table_full ≢ old.core.outcomes.table_full)

-- a static route stays an offer that counts, up to a minute after the core was last asked for a packet. This
-- holds if the core is asked each minute, however full tables are after the first time. For each route on
-- which this one depends, the neighbour itself must advertise nothing of its network. No other static entry
-- of that source may say something else of it
abbrev pub StaticRoutesHold : Type 0
StaticRoutesHold = (ns : List StaticNeighbour) (start : ℕ) (calls : List StaticCallAt)
    (old new : WithStaticsView PriorityCoreView) → RunsWithStatics ns start calls old new
    → (n : StaticNeighbour) → Contains ns n → (e : RipEntry) → Contains n.routes.items e
    → ((x : RipEntry) → Contains n.routes.items x → DependsOn old new e x
    → IsAdvertisedAlone route_key route_metric (λ m. m.routes.items) ns n x)
    → is_heard old.core.router.ports e ≡ true → e.hops < 16
    → IsAskedEachMinute (λ port bytes. (x : RipEntry) → Contains n.routes.items x
    → DependsOn old new e x → TellsItself old.core.router.ports n x.network port bytes → ⊥) calls start
    → (now : ℕ) → now ≤ asked_in calls start + 60000
    → Counts (route_metric e) now (routes_in new.core.router.routes (e.network, static_source n))

-- the same for each of its services
abbrev pub StaticServicesHold : Type 0
StaticServicesHold = (ns : List StaticNeighbour) (start : ℕ) (calls : List StaticCallAt)
    (old new : WithStaticsView PriorityCoreView) → RunsWithStatics ns start calls old new
    → (n : StaticNeighbour) → Contains ns n → (e : ServiceEntry) → Contains n.services.items e
    → ((x : ServiceEntry) → Contains n.services.items x → DependsOn old new e x
    → IsAdvertisedAlone key_of_service service_metric (λ m. m.services.items) ns n x)
    → e.hops < 16
    → IsAskedEachMinute (λ port bytes. (x : ServiceEntry) → Contains n.services.items x
    → DependsOn old new e x → OffersItself old.core.router.ports n (key_of_service x) port bytes → ⊥) calls start
    → (now : ℕ) → now ≤ asked_in calls start + 60000
    → Counts (service_metric e) now
    (services_in new.core.router.services (key_of_service e, static_source n))

-- a router that counts, without its counts
abbrev pub uncounted : WithStaticsView CountedView → WithStaticsView PriorityCoreView
uncounted s = record { core = without_counts s.core; advertisements = s.advertisements; refreshed_at = s.refreshed_at }

-- what a call does to a router that counts
abbrev pub DoesCountedCall : ℕ → StaticCall → WithStaticsView CountedView → WithStaticsView CountedView → Type 0
DoesCountedCall now (Comes port bytes) old new = HearsUnder CountsHeard old port bytes now new
DoesCountedCall now (Asked given) old new = GivesWithStatics CountsHeard CountsAsItGives old now given new
DoesCountedCall now AsksOnceMore old new = new ≡ record old { core = record old.core { started = false } }

-- the call does the same to it without its counts: so all of the above holds for it too
abbrev pub StaticsAreCountedSeparately : Type 0
StaticsAreCountedSeparately = (now : ℕ) (call : StaticCall) (old new : WithStaticsView CountedView)
    → DoesCountedCall now call old new → DoesStaticCall now call (uncounted old) (uncounted new)
