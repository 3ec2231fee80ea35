-- What a call on the core of `ipx route` does, as calls of routers, each a `RouterCore`. The entry points are
-- `DoneByLives` and `SiteCallsAreRouterCalls`. Defined by this project.
use Rattle.std.specs.Prelude.{◌≡◌, ◌⊎◌, ◌+◌, All, List, [], ◌∷◌, Contains, flat_map}
use Rattle.ipx_router.specs.Answer.{Receives}
use Rattle.ipx_router.specs.NewRouter.{IsOwnNetwork}
use Rattle.ipx_router.specs.OutcomeView.{Dropped, Forward, Heard, OutcomeView, Replies}
use Rattle.ipx_router.specs.RouterPackets.{SendingView}
use Rattle.ipx_router.specs.RouterView.{RouterView}
use Rattle.ipx_router.specs.declared.port.Port.{Port}
use Rattle.ipx_carrier.specs.RouterCore.{CoreView}
use Rattle.ipx_carrier.specs.RouterQueues.{given_of}
use Rattle.ipx_carrier.specs.Turns.{Given}
use Rattle.ipx_metrics.specs.MeteredRouter.{CountedView}
use Rattle.ipx_static.specs.declared.neighbour.StaticNeighbour.{StaticNeighbour}
use Rattle.ipx_static.specs.StaticAdvertisements.{AreStaticAdvertisements}
use Rattle.ipx_site.specs.SiteCore.{SiteCore}
use Rattle.theory_processes.specs.Course.{IsNewCore}
use Rattle.theory_processes.specs.Loops.{RouterRuns, router_gave, router_heard}
use Rattle.theory_processes.specs.RouterCalls.{HearsOn, RouterCall}
use Rattle.theory_processes.specs.SiteCalls.{DoesSiteCall}

-- the router that such a core wraps, and its ports
abbrev pub router_in : SiteCore → CountedView
router_in core = core.core.core.core

abbrev pub ports_in : SiteCore → List Port
ports_in core = (router_in core).router.ports

-- a packet waits in it to be given
abbrev pub WaitsIn : SiteCore → Given → Type 0
WaitsIn core g = (s : SendingView)
    × (Contains (router_in core).queues.forwarded s ⊎ Contains (router_in core).queues.own s) × (given_of s ≡ g)

-- its ports are on networks that a port may have, and what it is to hear each minute is what some static
-- neighbours would advertise
pub record IsSound (core : SiteCore) : Type 0 where
  pub networks : All IsOwnNetwork (ports_in core)
  pub neighbours : List StaticNeighbour
  pub statics : AreStaticAdvertisements neighbours core.core.core.advertisements

-- nothing is forwarded or replied: it is learned, or dropped
abbrev pub SendsNone : OutcomeView → Type 0
SendsNone (Forward port next bytes) = ⊥
SendsNone (Replies sent) = ⊥
SendsNone (Heard n) = Unit {0}
SendsNone (Dropped reason) = Unit {0}

-- whatever its tables hold, a router with these ports sends nothing for what a call receives: it learns from it, or
-- drops it
abbrev pub IsUnanswered : List Port → RouterCall → Type 0
IsUnanswered ports (HearsOn source port bytes now) = (old new : RouterView) (a : OutcomeView)
    → old.ports ≡ ports → Receives old (port + 1) bytes now a new → SendsNone a
IsUnanswered ports call = Unit {0}

-- of these calls each receives nothing; or it is a given call, which may be answered
abbrev pub HearOnly : List Port → RouterCall → List RouterCall → Type 0
HearOnly ports call [] = Unit {0}
HearOnly ports call (c ∷ cs) = (((c ≡ call) × (IsUnanswered ports call → ⊥)) ⊎ (router_heard c ≡ []))
    × HearOnly ports call cs

-- a `RouterCore` with these ports, from its start to its end. What its tables hold at first is
-- free. It receives nothing but what this call receives, and that only if a router may answer it
pub record Life (ports : List Port) (call : RouterCall) : Type 0 where
  pub first : CoreView
  pub last : CoreView
  pub calls : List RouterCall
  pub new : IsNewCore first
  pub there : first.router.ports ≡ ports
  pub runs : RouterRuns calls first last
  pub hears : HearOnly ports call calls

-- the packets that such routers gave
abbrev pub given_by : {ports : List Port} {call : RouterCall} → List (Life ports call) → List Given
given_by {ports} {call} lives = flat_map (λ (l : Life ports call). flat_map router_gave l.calls) lives

-- a call is the lives of some routers: each packet that it gives, or that waits after it, is given by one of them,
-- or waited before
pub record DoneByLives (call : RouterCall) (old new : SiteCore) : Type 0 where
  pub lives : List (Life (ports_in old) call)
  pub gave : (g : Given) → Contains (router_gave call) g → WaitsIn old g ⊎ Contains (given_by lives) g
  pub waits : (g : Given) → WaitsIn new g → WaitsIn old g ⊎ Contains (given_by lives) g
  pub same : ports_in new ≡ ports_in old
  pub sound : IsSound new

abbrev pub SiteCallsAreRouterCalls : Type 0
SiteCallsAreRouterCalls = (call : RouterCall) (old new : SiteCore) → IsSound old → DoesSiteCall call old new
    → DoneByLives call old new
