-- `ipx send` and `ipx listen` among hosts whose datagrams pass through `ipx route`. The entry points are
-- `SentOverRoutes`, `ListenedOverRoutes` and `BothEndOverRoutes`. Defined by this project.
use Rattle.std.specs.Prelude.{ℕ, ◌≡◌, List, ◌∷◌, IfSome, Option, Some, slice_get}
use Rattle.std.specs.Io.KnownBytes.{Appends}
use Rattle.ipx_config.specs.declared.host.HostConfig.{HostConfig}
use Rattle.ipx_wire.specs.declared.address.Address.{Address}
use Rattle.spx_messages.specs.EndpointView.{EndpointView}
use Rattle.spx_theory.specs.Deeds.{Reached}
use Rattle.spx_theory.specs.Peers.{IsFresh}
use Rattle.spx_theory.specs.Scene.{Scene}
use Rattle.ipx_site.specs.SiteCore.{SiteCore}
use Rattle.theory_processes.specs.Course.{Call}
use Rattle.theory_processes.specs.HostCalls.{Dials, HostCall, Source}
use Rattle.theory_processes.specs.Loops.{host_calls, marked}
use Rattle.theory_processes.specs.Processes.{IdsDiffer}
use Rattle.theory_processes.specs.Shows.{Shows}
use Rattle.theory_processes.specs.ListeningCalls.{ListensWellByCalls, OutputIsInput}
use Rattle.theory_processes.specs.SendingCalls.{InputIsRead, SendsByCalls}
use Rattle.theory_processes.specs.Together.{AreInside, IsCourseOf, places_of}

-- a host of a list of calls began and ended so, with these calls. The list says where its datagrams came from
pub record RunsAmong (calls : List Call) (hosts ends : List EndpointView) (host : ℕ) (start last : EndpointView) (own : List HostCall) : Type 0 where
  pub begins : slice_get hosts host ≡ Some start
  pub sources : List Source
  pub are : host_calls host calls ≡ marked sources own
  pub ended : slice_get ends host ≡ Some last

-- a run of `ipx send` that ended with status 0 is a host of the list. If nothing came from outside, no id was given
-- twice at one network and node, and what was read is recent, a peer took just its input, or has the rest of it
-- whole
abbrev pub SentOverRoutes : Type 0
SentOverRoutes = (calls : List Call) (hosts ends : List EndpointView) (cores : List SiteCore)
    (c : IsCourseOf calls hosts ends cores)
    → AreInside (places_of hosts cores) calls → IdsDiffer c.site
    → (file : HostConfig) (to : Address) (input : Option (List ℕ)) (run : SendsByCalls file to input) (host : ℕ)
    → RunsAmong calls hosts ends host run.start run.last (Dials file.socket to file.buffers 0 run.id ∷ run.more)
    → (s : Scene) → Reached s → Shows s c.site → IsFresh s.log
    → InputIsRead s c.site host run.id run.whole.held.link to input

-- the same of a run of `ipx listen`: its writer took all that the peer of one connection handed in
abbrev pub ListenedOverRoutes : Type 0
ListenedOverRoutes = (calls : List Call) (hosts ends : List EndpointView) (cores : List SiteCore)
    (c : IsCourseOf calls hosts ends cores)
    → AreInside (places_of hosts cores) calls → IdsDiffer c.site
    → (file : HostConfig) (written writes : Option (List ℕ)) (run : ListensWellByCalls file written writes) (host : ℕ)
    → RunsAmong calls hosts ends host run.start run.last run.calls.calls
    → (s : Scene) → Reached s → Shows s c.site → IsFresh s.log
    → OutputIsInput s c.site host run.id written writes

-- and if that peer is such a run of `ipx send`, the writer took just its input
abbrev pub BothEndOverRoutes : Type 0
BothEndOverRoutes = (calls : List Call) (hosts ends : List EndpointView) (cores : List SiteCore)
    (c : IsCourseOf calls hosts ends cores)
    → IdsDiffer c.site
    → (file : HostConfig) (to : Address) (input : Option (List ℕ)) (run : SendsByCalls file to input) (host : ℕ)
    → RunsAmong calls hosts ends host run.start run.last (Dials file.socket to file.buffers 0 run.id ∷ run.more)
    → (s : Scene) (reader id : ℕ) (written writes : Option (List ℕ)) (o : OutputIsInput s c.site reader id written writes)
    → o.sender.host ≡ host → o.sender.id ≡ run.id → IfSome input (λ bytes. Appends written writes bytes)
