-- Each static route and service of a router's file meets part of what `StaticRoutesHold` and
-- `StaticServicesHold` require, and so it is kept. Defined by this project. The entry points are
-- `FilesMeetPremises`, `RoutesOfFilesHold` and `ServicesOfFilesHold`, and `RoutesOfSitesHold` and
-- `ServicesOfSitesHold`.
use Rattle.std.specs.Prelude.{◌≡◌, ◌<◌, ◌≤◌, ◌+◌, ℕ, true, List, [], ◌∷◌, All, Contains, Option}
use Rattle.ipx_control.specs.declared.rip.packet.RipEntry.{RipEntry}
use Rattle.ipx_control.specs.declared.sap.packet.ServiceEntry.{ServiceEntry}
use Rattle.ipx_router.specs.declared.port.Port.{Port}
use Rattle.ipx_router.specs.Hearing.{is_heard, route_metric, service_metric}
use Rattle.ipx_router.specs.Knowledge.{routes_in, services_in}
use Rattle.ipx_router.specs.AdvertisedEntries.{key_of_service, route_key}
use Rattle.ipx_carrier.specs.PriorityRouterCore.{PriorityCoreView}
use Rattle.ipx_carrier.specs.Turns.{Given}
use Rattle.ipx_static.specs.declared.neighbour.StaticNeighbour.{StaticNeighbour}
use Rattle.ipx_static.specs.WithStatics.{WithStaticsView}
use Rattle.ipx_static.specs.StaticOffers.{Counts, FindsSpace, IsAnotherNode, IsAdvertisedAlone, static_source}
use Rattle.ipx_static.specs.StaticRuns.{Asked, AsksOnceMore, Comes, DoStaticCalls, DependsOn, DoesStaticCall, StaticCall, StaticCallAt, IsAskedEachMinute, OffersItself, TellsItself, asked_in, uncounted}
use Rattle.ipx_source_checks.specs.declared.failed_check.CheckedPort.{CheckedPort}
use Rattle.ipx_source_checks.specs.declared.failed_check.FailedCheck.{FailedCheck}
use Rattle.ipx_source_checks.specs.SourceChecks.{FailsAt}
use Rattle.ipx_config.specs.declared.statics.StaticEntry.{StaticEntry}
use Rattle.ipx_config.specs.declared.statics.StaticItem.{StaticItem}
use Rattle.ipx_config.specs.declared.statics.StaticItem.TheVariants.{Route, Service}
use Rattle.ipx_config.specs.declared.site.RouterConfig.{RouterConfig}
use Rattle.ipx_site.specs.StaticNeighbours.{AreStaticNeighbours, IsToHear}
use Rattle.ipx_config.specs.Site.{IsSiteText}
use Rattle.ipx_site.specs.SiteCore.{SiteAsksAgain, SiteCore, SiteGives, SiteHears}
use Rattle.ipx_config.specs.SitePorts.{router_ports}

-- a neighbour is to advertise an item and nothing else for its key, less than 16 hops away; the network of a
-- route is one that the router hears
abbrev pub MayAdvertise : List Port → List StaticNeighbour → StaticNeighbour → StaticItem → Type 0
MayAdvertise ports ns n (Route e) = Contains n.routes.items e
    × IsAdvertisedAlone route_key route_metric (λ m. m.routes.items) ns n e
    × (is_heard ports e ≡ true) × (e.hops < 16)
MayAdvertise ports ns n (Service e) = Contains n.services.items e
    × IsAdvertisedAlone key_of_service service_metric (λ m. m.services.items) ns n e × (e.hops < 16)

-- the neighbour of an entry is to do so
abbrev pub NeighbourMayAdvertise : List Port → List StaticNeighbour → StaticEntry → Type 0
NeighbourMayAdvertise ports ns h = (n : StaticNeighbour) × Contains ns n × (static_source n ≡ h.by)
    × MayAdvertise ports ns n h.word

-- no neighbour of a file is the router itself, and each entry is to be kept
abbrev pub FilesMeetPremises : Type 0
FilesMeetPremises = (text : List ℕ) (s : RouterConfig) → IsSiteText text s
    → (ns : List StaticNeighbour) → AreStaticNeighbours s.statics.items ns
    → All (IsAnotherNode (router_ports s.ports.items)) ns
    × All (NeighbourMayAdvertise (router_ports s.ports.items) ns) s.statics.items

-- a router without counts by port and without limits has the ports of a file, and is to hear its static
-- entries. It is asked at first, and finds no table full then
pub record RunsByFile (s : RouterConfig) (start : ℕ) (calls : List StaticCallAt) (old new : WithStaticsView PriorityCoreView) : Type 0 where
  pub to_hear : IsToHear s.statics.items old
  pub ports : old.core.router.ports ≡ router_ports s.ports.items
  pub given : Option Given
  pub first : WithStaticsView PriorityCoreView
  pub begins : DoesStaticCall start (Asked given) old first
  pub goes_on : DoStaticCalls calls first new
  pub room : FindsSpace old.core first.core

-- the static routes of a file on which a route depends: itself, and if a table was full in between, all of
-- the same neighbour
abbrev pub DependsOnRoute : RouterConfig → (old new : WithStaticsView PriorityCoreView) → StaticEntry → RipEntry
    → RipEntry → Type 0
DependsOnRoute s old new h e x = DependsOn old new e x
    × (g : StaticEntry) × Contains s.statics.items g × (g.by ≡ h.by) × (g.word ≡ Route x)

abbrev pub DependsOnService : RouterConfig → (old new : WithStaticsView PriorityCoreView) → StaticEntry
    → ServiceEntry → ServiceEntry → Type 0
DependsOnService s old new h e x = DependsOn old new e x
    × (g : StaticEntry) × Contains s.statics.items g × (g.by ≡ h.by) × (g.word ≡ Service x)

-- then each route of the file is an offer that counts, up to a minute after the router was last asked. It
-- must be asked each minute. The neighbour itself must advertise nothing of that network, nor of those on
-- whose routes it depends. Tables may fill up after the first time
abbrev pub RoutesOfFilesHold : Type 0
RoutesOfFilesHold = (text : List ℕ) (s : RouterConfig) → IsSiteText text s → (start : ℕ) (calls : List StaticCallAt)
    (old new : WithStaticsView PriorityCoreView) → RunsByFile s start calls old new
    → (h : StaticEntry) → Contains s.statics.items h → (e : RipEntry) → h.word ≡ Route e
    → ((n : StaticNeighbour) → static_source n ≡ h.by
    → IsAskedEachMinute (λ port bytes. (x : RipEntry) → DependsOnRoute s old new h e x
    → TellsItself (router_ports s.ports.items) n x.network port bytes → ⊥) calls start)
    → (now : ℕ) → now ≤ asked_in calls start + 60000
    → Counts (route_metric e) now (routes_in new.core.router.routes (e.network, h.by))

-- the same holds for each service
abbrev pub ServicesOfFilesHold : Type 0
ServicesOfFilesHold = (text : List ℕ) (s : RouterConfig) → IsSiteText text s → (start : ℕ) (calls : List StaticCallAt)
    (old new : WithStaticsView PriorityCoreView) → RunsByFile s start calls old new
    → (h : StaticEntry) → Contains s.statics.items h → (e : ServiceEntry) → h.word ≡ Service e
    → ((n : StaticNeighbour) → static_source n ≡ h.by
    → IsAskedEachMinute (λ port bytes. (x : ServiceEntry) → DependsOnService s old new h e x
    → OffersItself (router_ports s.ports.items) n (key_of_service x) port bytes → ⊥) calls start)
    → (now : ℕ) → now ≤ asked_in calls start + 60000
    → Counts (service_metric e) now (services_in new.core.router.services (key_of_service e, h.by))

-- bytes that come in at a port fail no source check of these ports
abbrev pub FailsNone : List CheckedPort → ℕ → List ℕ → Type 0
FailsNone ports port bytes = (f : FailedCheck) → FailsAt ports port bytes f → ⊥

-- bytes come in to the core of a site's router, it is asked for a packet, or it is to repeat its requests;
-- and it does not run out of memory
abbrev pub DoesSiteCall : ℕ → StaticCall → SiteCore → SiteCore → Type 0
DoesSiteCall now (Comes port bytes) old new = SiteHears old port bytes now new
DoesSiteCall now (Asked given) old new = SiteGives old now given new
DoesSiteCall now AsksOnceMore old new = SiteAsksAgain old new

abbrev pub DoSiteCalls : List StaticCallAt → SiteCore → SiteCore → Type 0
DoSiteCalls [] old new = new ≡ old
DoSiteCalls (c ∷ cs) old new = (mid : SiteCore)
    × DoesSiteCall c.moment c.call old mid × DoSiteCalls cs mid new

-- the router of a file runs in this way, also if it repeats its requests
pub record RunsAsSite (s : RouterConfig) (start : ℕ) (calls : List StaticCallAt) (old new : SiteCore) : Type 0 where
  pub to_hear : IsToHear s.statics.items old.core.core
  pub ports : old.core.core.core.router.ports ≡ router_ports s.ports.items
  pub given : Option Given
  pub first : SiteCore
  pub begins : DoesSiteCall start (Asked given) old first
  pub goes_on : DoSiteCalls calls first new
  pub room : FindsSpace (uncounted old.core.core).core (uncounted first.core.core).core

-- then each route and each service of the file is kept in it as above. What fails a source check may advertise them
abbrev pub RoutesOfSitesHold : Type 0
RoutesOfSitesHold = (text : List ℕ) (s : RouterConfig) → IsSiteText text s → (start : ℕ) (calls : List StaticCallAt)
    (old new : SiteCore) → RunsAsSite s start calls old new
    → (h : StaticEntry) → Contains s.statics.items h → (e : RipEntry) → h.word ≡ Route e
    → ((n : StaticNeighbour) → static_source n ≡ h.by
    → IsAskedEachMinute (λ port bytes. FailsNone old.ports port bytes → (x : RipEntry)
    → DependsOnRoute s (uncounted old.core.core) (uncounted new.core.core) h e x
    → TellsItself (router_ports s.ports.items) n x.network port bytes → ⊥) calls start)
    → (now : ℕ) → now ≤ asked_in calls start + 60000
    → Counts (route_metric e) now (routes_in new.core.core.core.router.routes (e.network, h.by))

abbrev pub ServicesOfSitesHold : Type 0
ServicesOfSitesHold = (text : List ℕ) (s : RouterConfig) → IsSiteText text s → (start : ℕ) (calls : List StaticCallAt)
    (old new : SiteCore) → RunsAsSite s start calls old new
    → (h : StaticEntry) → Contains s.statics.items h → (e : ServiceEntry) → h.word ≡ Service e
    → ((n : StaticNeighbour) → static_source n ≡ h.by
    → IsAskedEachMinute (λ port bytes. FailsNone old.ports port bytes → (x : ServiceEntry)
    → DependsOnService s (uncounted old.core.core) (uncounted new.core.core) h e x
    → OffersItself (router_ports s.ports.items) n (key_of_service x) port bytes → ⊥) calls start)
    → (now : ℕ) → now ≤ asked_in calls start + 60000
    → Counts (service_metric e) now (services_in new.core.core.core.router.services (key_of_service e, h.by))
