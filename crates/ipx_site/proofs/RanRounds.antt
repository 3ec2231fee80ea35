-- One round of a router after another.
use Rattle.std.proofs.Common.{◌≡◌, ◌⊎◌, ◌+◌, ℕ, suc, Bool, true, false, List, Result, Ok, Err, inl, inr, arith, subst, sym, ◌∙◌}
use Rattle.std.specs.Prelude.{◌==◌, IfErr, IfOk, OnOk, is_err, map}
use Rattle.ipx_carrier.specs.PriorityRouterCore.{nothing_waits}
use Rattle.ipx_carrier.specs.ReadySet.{AreMarked, is_any_marked}
use Rattle.ipx_carrier.specs.Turns.{peers_of}
use Rattle.ipx_carrier.specs.declared.report.Batch.{Batch}
use Rattle.ipx_source_checks.specs.SourceChecks.{nothing_dropped_yet}
use Rattle.ipx_site.specs.IdleTime.{IsDue, deadlines, happened}
use Rattle.ipxnet_server.specs.declared.port.Secret.{Secret}
use Rattle.ipx_table_dump.specs.declared.client_places.ClientPlace.{ClientPlace}
use Rattle.ipx_site.specs.KindPorts.{checked_ports, ArePortsBound}
use Rattle.ipx_config.specs.Loading.{IsFileText}
use Rattle.ipx_sockets.specs.PollEvents.{Watched}
use Rattle.ipx_sockets.specs.Polling.{WaitsOnce, numbers_come}
use Rattle.ipx_rate_limits.specs.PortLimits.{limits_of}
use Rattle.ipx_site.specs.NewRouters.{HasFilteredNothing, IsUncounted}
use Rattle.ipx_site.specs.PortsView.{ways_in}
use Rattle.ipx_site.specs.RouterRounds.{IsRound, SleepsAfter}
use Rattle.ipx_site.specs.RouterWork.{WorksInRound, notes_of}
use Rattle.ipx_site.specs.RoutingRuns.{HasDoneNothing, KnowsNothing, Rounds, RoutesWell, RunsTo, StartsBy, StartsByFile, TakesRound, WritesFilesOf}
use Rattle.ipx_config.specs.Site.{IsSiteText}
use Rattle.ipx_site.specs.RouterMarks.{AreIndicesDistinct}
use Rattle.ipx_site.specs.SiteMarks.{AfterMarks, marks_in, port_fds}
use Rattle.ipx_sockets.specs.AccessLists.{access_by}
use Rattle.ipx_config.specs.SitePorts.{router_ports}
use Rattle.ipx_site.specs.StaticNeighbours.{IsToHear}
use Rattle.ipx_sockets.specs.Steady.{NeverGoesBack, StopsThere}
use Rattle.ipx_rate_limits.specs.TokenBuckets.{fresh_buckets}
use Rattle.ipx_sockets.specs.declared.clock.SteadyClock.{SteadyClock}
use Rattle.ipx_site.specs.declared.running_router.RunningRouter.{RunningRouter}
use Rattle.ipx_config.specs.declared.site.RouterConfig.{RouterConfig}
use Rattle.ipx_site.specs.declared.router_ports.PortIndex.{PortIndex}
use Rattle.ipx_site.proofs.IndexMarks.{distinct}

-- what holds after a wait that did not fail
when_well : {T E : Type 0} (r : Result T E) (failed : Bool) (P : Type 0) → is_err r ≡ failed → OnOk r P → failed ≡ false → P
when_well (Ok t) failed P same p well = p
when_well (Err e) failed P same p well = absurd (let no : true ≡ false = same ∙ well in cc)

pub took_round : {R T E : Type 0} (old new : RunningRouter R) (r : Result T E)
    → (between : SteadyClock R) × (batch : Batch) × (time : ℕ)
    × AfterMarks (λ ended. IsRound old.clock between StopsThere NeverGoesBack old.ports ended old.asked new.asked old.core new.core new.ports.ethernet.moment batch
    × SleepsAfter (IsDue (deadlines new.asked new.looked new.responses new.written new.core new.warnings new.client_log (happened new.totals new.core new.ports) new.ports.servers.servers.items)) (is_any_marked (marks_in ended)) between new.clock StopsThere time batch.fault batch.quiet
    × OnOk r (AreMarked (numbers_come new.ready) (marks_in ended) (marks_in new.ports))) new.ports
    × WaitsOnce time old.ready new.ready
    × WorksInRound old.ports old.core new.ports.ethernet.moment old.asked new.asked batch (notes_of old) (notes_of new)
    → is_err r ≡ new.ready.failed → new.ports.servers.moment ≡ new.ports.ethernet.moment → ways_in new.ports ≡ ways_in old.ports
    → peers_of new.ports.datagrams.peers.items ≡ peers_of old.ports.datagrams.peers.items → new.ports.port_indices.items ≡ old.ports.port_indices.items
    → map access_by new.ports.datagrams.device.access_lists.items ≡ map access_by old.ports.datagrams.device.access_lists.items → TakesRound old new
took_round old new r (between, batch, time, (ended, (round, sleeps, marked), differ), waits, work) failed moments transmissions peers port_indices access = record {
  between = between;
  batch = batch;
  time = time;
  turns = (
    ended,
    (round, sleeps, when_well r new.ready.failed (AreMarked (numbers_come new.ready) (marks_in ended) (marks_in new.ports)) failed marked),
    differ,
  );
  waits = waits;
  work = work;
  moments = moments;
  transmissions = transmissions;
  peers = peers;
  port_indices = port_indices;
  access = access;
}

-- one more
pub rounds_more : {R : Type 0} (n : ℕ) (first before last : RunningRouter R) → Rounds n first before → TakesRound before last → last.ready.failed ≡ false → Rounds (n + 1) first last
rounds_more n first before last run one well =
    let next : suc n ≡ n + 1 = omega arith in
    subst (λ (k : ℕ). Rounds k first last) next (before, run, one, well)

-- all that holds of a start, in one record
pub started_by : {R E : Type 0} (secret : Secret) (known : List ClientPlace) (site : RouterConfig) (started : Result (RunningRouter R) E)
    → IfOk started (λ s. s.core.core.core.core.router.ports ≡ router_ports site.ports.items) → IfOk started (λ s. KnowsNothing s.core.core.core.core.router) → IfOk started (λ s. s.core.core.core.core.queues ≡ nothing_waits)
    → IfOk started (λ s. IsToHear site.statics.items s.core.core.core)
    → IfOk started (λ s. (s.core.ports ≡ checked_ports site.ports.items) × (s.core.drops ≡ nothing_dropped_yet))
    → IfOk started (λ s. (s.core.core.ports ≡ router_ports site.ports.items) × (s.core.core.buckets ≡ fresh_buckets (limits_of site.ports.items)))
    → IfOk started (λ s. ArePortsBound secret known site.ports.items s.ports) → IfOk started (λ s. s.ready.poll.trace.items ≡ map Watched (port_fds s.ports)) → IfOk started (λ s. s.clock.last ≡ 0) → IfOk started (λ s. s.asked ≡ 0) → IfOk started (λ s. IsUncounted s.core) → IfOk started (λ s. HasDoneNothing s)
    → IfOk started (λ s. HasFilteredNothing s.ports.datagrams.device) → IfOk started (λ s. WritesFilesOf site secret known s)
    → IfOk started (λ s. StartsBy site s)
started_by secret known site (Ok s) ports nothing empty statics checks queriers bound watched clock asked uncounted idle unfiltered files =
    record { ports = ports; nothing = nothing; empty = empty; statics = statics; checks = checks; queriers = queriers; secret = secret; known = known; bound = bound; indices = subst (λ (it : List PortIndex). AreIndicesDistinct it) (sym bound.port_indices) (distinct site.ports.items); watched = watched; clock = clock; asked = asked; uncounted = uncounted; idle = idle; unfiltered = unfiltered; files = files }
started_by secret known site (Err e) ports nothing empty statics checks queriers bound watched clock asked uncounted idle unfiltered files = tt

-- a router that started as its file says started as some file says
pub starts_by_file : {R : Type 0} (loaded : Result RouterConfig ℕ) (result : Result (RunningRouter R) ℕ) → IfOk loaded (λ s. (text : List ℕ) × IsFileText text × IsSiteText text s)
    → IfErr loaded (λ s. result ≡ Err s) → IfOk loaded (λ site. IfOk result (λ s. StartsBy site s)) → IfOk result (λ s. StartsByFile s)
starts_by_file (Ok site) (Ok s) text unread starts = (text.0, (site, text.1, text.2, starts))
starts_by_file loaded (Err e) text unread starts = tt
starts_by_file (Err e) (Ok s) text unread starts = absurd (cc)

-- the status of a router that was not started
pub start_refused : {R : Type 0} (loaded : Result RouterConfig ℕ) (result : Result (RunningRouter R) ℕ) → IfErr loaded (λ s. (s ≡ 1) ⊎ (s ≡ 2))
    → IfErr loaded (λ s. result ≡ Err s) → OnOk loaded (IfErr result (λ s. s ≡ 1)) → IfErr result (λ s. (s ≡ 1) ⊎ (s ≡ 2))
start_refused loaded (Ok s) fault unread refused = tt
start_refused (Ok site) (Err e) fault unread refused = inl refused
start_refused (Err l) (Err e) fault unread refused = let same : e ≡ l = cc in subst (λ (s : ℕ). (s ≡ 1) ⊎ (s ≡ 2)) (sym same) fault

-- a run that succeeded, of a router that started as a file says
pub routes_well : {R : Type 0} (first last : RunningRouter R) (status : ℕ) → StartsByFile first → RunsTo first last (status == 0) → status ≡ 0 → RoutesWell R
routes_well first last status starts runs well = (first, last, starts, subst (λ (n : ℕ). RunsTo first last (n == 0)) well runs)

-- a router that was not started did not succeed
pub not_well : {P : Type 0} (status : ℕ) → (status ≡ 1) ⊎ (status ≡ 2) → status ≡ 0 → P
not_well status (inl one) none = absurd (omega (arith, one, none))
not_well status (inr two) none = absurd (omega (arith, two, none))
