-- What the router of a file does from its start until it ends: one round after another. The entry points are
-- `StartsByFile`, `RunsTo` and, of both, `RoutesWell`; of a given text `StartsByText` and `RoutesByText`. Defined by
-- this project.
use Rattle.std.specs.Prelude.{◌≡◌, ◌^◌, ◌-◌, ℕ, zero, suc, Bool, true, false, List, [], map, replicate, None}
use Rattle.ipx_carrier.specs.PriorityRouterCore.{nothing_waits}
use Rattle.ipx_carrier.specs.ReadySet.{AreMarked, is_any_marked}
use Rattle.ipx_carrier.specs.Turns.{peers_of}
use Rattle.ipx_carrier.specs.declared.report.Batch.{Batch}
use Rattle.ipx_router.specs.RouterView.{RouterView}
use Rattle.ipx_source_checks.specs.SourceChecks.{nothing_dropped_yet}
use Rattle.ipx_site.specs.ClientsFile.{written_at_start}
use Rattle.ipx_site.specs.IdleTime.{IsDue, deadlines, happened}
use Rattle.ipx_site.specs.KindPorts.{checked_ports, ArePortsBound}
use Rattle.ipxnet_server.specs.declared.port.Secret.{Secret}
use Rattle.ipx_table_dump.specs.declared.client_places.ClientPlace.{ClientPlace}
use Rattle.ipx_config.specs.Loading.{IsFileText}
use Rattle.ipx_sockets.specs.PollEvents.{Watched}
use Rattle.ipx_sockets.specs.Polling.{WaitsOnce, numbers_come}
use Rattle.ipx_rate_limits.specs.PortLimits.{limits_of}
use Rattle.ipx_site.specs.DropLog.{no_drops_logged}
use Rattle.ipx_site.specs.NewRouters.{HasFilteredNothing, HasLoggedNobody, HasSeenNothing, IsUncounted}
use Rattle.ipx_site.specs.PortsView.{ways_in}
use Rattle.ipx_site.specs.RouterMetrics.{no_counts}
use Rattle.ipx_site.specs.RouterRounds.{IsRound, SleepsAfter}
use Rattle.ipx_site.specs.RouterWork.{WorksInRound, notes_of}
use Rattle.ipx_config.specs.Site.{IsSiteText}
use Rattle.ipx_site.specs.RouterMarks.{AreIndicesDistinct}
use Rattle.ipx_site.specs.SiteMarks.{AfterMarks, marks_in, port_fds}
use Rattle.ipx_sockets.specs.AccessLists.{access_by}
use Rattle.ipx_sockets.specs.Moments.{never_logged}
use Rattle.ipx_config.specs.SitePorts.{router_ports}
use Rattle.ipx_site.specs.StaticNeighbours.{IsToHear}
use Rattle.ipx_sockets.specs.Steady.{NeverGoesBack, StopsThere}
use Rattle.ipx_rate_limits.specs.TokenBuckets.{fresh_buckets}
use Rattle.ipx_sockets.specs.declared.clock.SteadyClock.{SteadyClock}
use Rattle.ipx_site.specs.declared.running_router.RunningRouter.{RunningRouter}
use Rattle.ipx_config.specs.declared.site.RouterConfig.{RouterConfig}

-- a router knows no route and no service of others, and has advertised nothing
abbrev pub KnowsNothing : RouterView → Type 0
KnowsNothing r = (r.routes.offers ≡ []) × (r.services.offers ≡ []) × (r.advertised_at ≡ None)

-- a running router has counted nothing itself, has not looked at what it knows, and has logged and written nothing
pub record HasDoneNothing {R : Type 0} (r : RunningRouter R) : Type 0 where
  pub totals : r.totals ≡ no_counts
  pub looked : (r.looked ≡ None) × (r.responses ≡ 0)
  pub known : HasSeenNothing r.route_changes
  pub clients : HasLoggedNobody r.client_log
  pub warnings : r.warnings.causes ≡ replicate 19 never_logged
  pub drops : r.drops ≡ no_drops_logged
  pub written : r.written ≡ None

-- a router writes the files that its own file names. The file of its secret is to hold this secret, and lists these
-- clients
pub record WritesFilesOf {R : Type 0} (site : RouterConfig) (secret : Secret) (known : List ClientPlace)
    (r : RunningRouter R) : Type 0 where
  pub metrics_file : r.metrics_file ≡ site.metrics_file
  pub tables_file : r.tables_file ≡ site.tables_file
  pub secret_file : r.clients_file.path ≡ site.secret_file
  pub kept_secret : r.clients_file.secret ≡ secret
  pub listed : r.clients_file.listed.items ≡ known
  pub looked : r.clients_file.looked ≡ None
  pub written : r.clients_file.written ≡ written_at_start known

-- a router has started as its file says. It has the ports of the file, each with its socket and an index of
-- its own, and all ipxnet ports with one secret and notes of some clients. It has the files of its file, and that secret
-- and these clients for one of them. It knows nothing of other routers, has
-- nothing to send, and is to hear its static entries. It checks sources at its ports, and has dropped nothing. The limits at its ports are
-- those of their kinds and of the file, and no query has come. Its poller watches the descriptors of
-- all its sockets, by kind, and has not waited. Its clock begins at 0, and it has not repeated its requests. It
-- has counted, looked at, logged and written nothing
pub record StartsBy {R : Type 0} (site : RouterConfig) (first : RunningRouter R) : Type 0 where
  pub ports : first.core.core.core.core.router.ports ≡ router_ports site.ports.items
  pub nothing : KnowsNothing first.core.core.core.core.router
  pub empty : first.core.core.core.core.queues ≡ nothing_waits
  pub uncounted : IsUncounted first.core
  pub statics : IsToHear site.statics.items first.core.core.core
  pub checks : (first.core.ports ≡ checked_ports site.ports.items) × (first.core.drops ≡ nothing_dropped_yet)
  pub queriers : (first.core.core.ports ≡ router_ports site.ports.items)
      × (first.core.core.buckets ≡ fresh_buckets (limits_of site.ports.items))
  pub secret : Secret
  pub known : List ClientPlace
  pub bound : ArePortsBound secret known site.ports.items first.ports
  pub files : WritesFilesOf site secret known first
  pub unfiltered : HasFilteredNothing first.ports.datagrams.device
  pub indices : AreIndicesDistinct first.ports.port_indices.items
  pub watched : first.ready.poll.trace.items ≡ map Watched (port_fds first.ports)
  pub clock : first.clock.last ≡ 0
  pub asked : first.asked ≡ 0
  pub idle : HasDoneNothing first

-- one round, which begins with the pings that are due, followed by one wait, as long as there is nothing to do.
-- If the wait does not fail, the ports are marked of which the system reported an event in it, and no others. Marks of before stay,
-- and nothing else changes at the ports after the turns. The ways of packets, the port indices and the accepted senders are unchanged.
-- Before its turns the router noted what was due as logged and written. Its totals are those of before, with just what
-- was refused to this work. Then what the batch of the round did not send is added, and the fault that ended it
pub record TakesRound {R : Type 0} (old new : RunningRouter R) : Type 0 where
  pub between : SteadyClock R
  pub batch : Batch
  pub time : ℕ
  pub turns : AfterMarks (λ ended.
      IsRound old.clock between StopsThere NeverGoesBack old.ports ended old.asked new.asked old.core new.core
      new.ports.ethernet.moment batch
      × SleepsAfter (IsDue (deadlines new.asked new.looked new.responses new.written new.core
      new.warnings new.client_log (happened new.totals new.core new.ports) new.ports.servers.servers.items)) (is_any_marked (marks_in ended))
      between new.clock StopsThere time batch.fault batch.quiet
      × (new.ready.failed ≡ false → AreMarked (numbers_come new.ready) (marks_in ended) (marks_in new.ports)))
      new.ports
  pub waits : WaitsOnce time old.ready new.ready
  pub work : WorksInRound old.ports old.core new.ports.ethernet.moment old.asked new.asked batch (notes_of old) (notes_of new)
  pub moments : new.ports.servers.moment ≡ new.ports.ethernet.moment
  pub transmissions : ways_in new.ports ≡ ways_in old.ports
  pub peers : peers_of new.ports.datagrams.peers.items ≡ peers_of old.ports.datagrams.peers.items
  pub port_indices : new.ports.port_indices.items ≡ old.ports.port_indices.items
  pub access : map access_by new.ports.datagrams.device.access_lists.items
      ≡ map access_by old.ports.datagrams.device.access_lists.items

-- this many rounds, each from where the last one left the router, and no wait after them fails
abbrev pub Rounds : {R : Type 0} → ℕ → RunningRouter R → RunningRouter R → Type 0
Rounds zero first last = last ≡ first
Rounds {R} (suc n) first last = (before : RunningRouter R) × Rounds n first before
    × TakesRound before last × (last.ready.failed ≡ false)

-- a run: rounds, and one after which the wait fails; or 2^64 - 1 rounds, after which it succeeds
abbrev pub RunsTo : {R : Type 0} → RunningRouter R → RunningRouter R → Bool → Type 0
RunsTo {R} first last false = (count : ℕ) × (before : RunningRouter R) × Rounds count first before
    × TakesRound before last × (last.ready.failed ≡ true)
RunsTo first last true = (count : ℕ) × (count ≡ 2 ^ 64 - 1) × Rounds count first last

-- a router has started as this text of a file describes
abbrev pub StartsByText : {R : Type 0} → List ℕ → RunningRouter R → Type 0
StartsByText text first = (site : RouterConfig) × IsFileText text × IsSiteText text site × StartsBy site first

-- a router has started as a file says that some text describes
abbrev pub StartsByFile : {R : Type 0} → RunningRouter R → Type 0
StartsByFile first = (text : List ℕ) × StartsByText text first

-- a router started as a file says, and its run from there succeeded
abbrev pub RoutesWell : Type 0 → Type 0
RoutesWell R = (first last : RunningRouter R) × StartsByFile first × RunsTo first last true

-- a router started as this text describes, and its run from there succeeded
abbrev pub RoutesByText : Type 0 → List ℕ → Type 0
RoutesByText R text = (first last : RunningRouter R) × StartsByText text first × RunsTo first last true
