-- Hosts and routers of `ipx route` that run each by itself, as a course of hosts and `RouterCore`s. The entry point is
-- `RunningRoutersTakeCourses`, at the end. Defined by this project.
use Rattle.std.specs.Prelude.{ℕ, ◌≡◌, ◌⊎◌, true, List, [], ◌∷◌, map, Option, None, Some, slice_get}
use Rattle.spx_messages.specs.EndpointView.{EndpointView}
use Rattle.spx_theory.specs.Deeds.{Reached}
use Rattle.spx_theory.specs.Peers.{IsFresh}
use Rattle.spx_theory.specs.Scene.{Scene}
use Rattle.ipx_router.specs.declared.port.Port.{Port}
use Rattle.ipx_carrier.specs.RouterCore.{CoreView}
use Rattle.ipx_carrier.specs.Turns.{Given}
use Rattle.ipx_site.specs.SiteCore.{SiteCore}
use Rattle.theory_processes.specs.Course.{AtHost, AtRouter, Call, Course, IsNewHost, IsNewSite, connections_after}
use Rattle.theory_processes.specs.HostCalls.{ByACore, Hears, HostCall}
use Rattle.theory_processes.specs.Loops.{AreInPlace, EndsAs, HostRuns, host_calls, router_calls}
use Rattle.theory_processes.specs.Processes.{AreTransfers, IdsDiffer}
use Rattle.theory_processes.specs.RouterCalls.{HearsOn, RouterCall}
use Rattle.theory_processes.specs.Shows.{Shows}
use Rattle.theory_processes.specs.Site.{Connection, Site}
use Rattle.theory_processes.specs.Lives.{IsSound, IsUnanswered, WaitsIn, router_in}
use Rattle.theory_processes.specs.SiteCalls.{SiteRuns}

-- a core of `ipx route` that has nothing to send
pub record IsNewSiteCore (core : SiteCore) : Type 0 where
  pub sound : IsSound core
  pub none : (g : Given) → WaitsIn core g → ⊥

-- a router with the ports of such a core, and nothing to send
abbrev pub with_ports_of : SiteCore → CoreView
with_ports_of core = record {
  router = (router_in core).router;
  queue = [];
  started = true;
  dropped = 0;
  outcomes = (router_in core).outcomes;
}

-- where hosts and such routers are. Nothing has happened there yet
abbrev pub places_of : List EndpointView → List SiteCore → Site
places_of hosts cores = record {
  hosts = hosts;
  routers = map with_ports_of cores;
  connections = [];
  mail = [];
  sent = [];
  outside = [];
}

-- each host and each router ran by itself, with its own calls. The hosts ended as these
pub record RunEachAlone (calls : List Call) (hosts ends : List EndpointView) (cores : List SiteCore) : Type 0 where
  pub of_hosts : (k : ℕ) (e : EndpointView) → slice_get hosts k ≡ Some e
      → (f : EndpointView) × (slice_get ends k ≡ Some f) × HostRuns (host_calls k calls) e f
  pub of_routers : (k : ℕ) (core : SiteCore) → slice_get cores k ≡ Some core
      → (new : SiteCore) × SiteRuns (router_calls k calls) core new

-- a call receives nothing that is marked as from outside; but a router may receive what it answers with no packet,
-- whatever its tables hold
abbrev pub host_inside : HostCall → Type 0
host_inside (Hears source bytes now answer) = source ≡ ByACore
host_inside call = Unit {0}

abbrev pub router_inside : List Port → RouterCall → Type 0
router_inside ports (HearsOn source port bytes now) =
    (source ≡ ByACore) ⊎ IsUnanswered ports (HearsOn source port bytes now)
router_inside ports call = Unit {0}

abbrev pub inside_at : Option CoreView → RouterCall → Type 0
inside_at None call = ⊥
inside_at (Some core) call = router_inside core.router.ports call

abbrev pub IsInside : Site → Call → Type 0
IsInside start (AtHost k call) = host_inside call
IsInside start (AtRouter k call) = inside_at (slice_get start.routers k) call

abbrev pub AreInside : Site → List Call → Type 0
AreInside start [] = Unit {0}
AreInside start (call ∷ calls) = IsInside start call × AreInside start calls

-- the connections that calls of hosts make, in order, after these
abbrev pub connections_by : List Call → List Connection → List Connection
connections_by [] cs = cs
connections_by (AtHost k call ∷ calls) cs = connections_by calls (connections_after k call cs)
connections_by (AtRouter k call ∷ calls) cs = connections_by calls cs

-- a course in which the hosts begin and end as these, with the same calls, and so with the same connections. If
-- nothing came from outside in the list, nothing did in the course
pub record IsCourseOf (calls : List Call) (hosts ends : List EndpointView) (cores : List SiteCore) : Type 0 where
  pub start : Site
  pub site : Site
  pub steps : List Call
  pub new : IsNewSite start
  pub course : Course steps start site
  pub hosts_are : start.hosts ≡ hosts
  pub ends_are : EndsAs start ends site
  pub same : (k : ℕ) → host_calls k steps ≡ host_calls k calls
  pub connections_are : site.connections ≡ connections_by calls []
  pub inside : AreInside (places_of hosts cores) calls → site.outside ≡ []

-- hosts and routers of `ipx route`, all new, each ran by itself, in whatever way their calls interleave. Each
-- datagram that arrived was given before by one of them, on that network, or is marked as from outside. Then there
-- is such a course
abbrev pub RunningRoutersTakeCourses : Type 0
RunningRoutersTakeCourses = (hosts ends : List EndpointView) (cores : List SiteCore) (calls : List Call)
    → ((k : ℕ) (e : EndpointView) → slice_get hosts k ≡ Some e → IsNewHost e)
    → ((k : ℕ) (core : SiteCore) → slice_get cores k ≡ Some core → IsNewSiteCore core)
    → RunEachAlone calls hosts ends cores → AreInPlace (places_of hosts cores) calls []
    → IsCourseOf calls hosts ends cores

-- so there is a scene that shows the hosts. In each one that does, the headline and the close hold, if nothing
-- came from outside, no id was given twice at one network and node, and what was read is recent
abbrev pub HandOnOverRoutes : Type 0
HandOnOverRoutes = (calls : List Call) (hosts ends : List EndpointView) (cores : List SiteCore)
    → (c : IsCourseOf calls hosts ends cores)
    → ((s : Scene) × Reached s × Shows s c.site)
    × (AreInside (places_of hosts cores) calls → IdsDiffer c.site
    → (s : Scene) → Reached s → Shows s c.site → IsFresh s.log → AreTransfers s c.site)
