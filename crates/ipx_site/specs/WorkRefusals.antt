-- What may be refused to a running router in a round besides its turns, and what it does otherwise. The entry point
-- is `DoesUnless`. Defined by this project.
use Rattle.std.specs.Prelude.{String, ◌≡◌, ◌⊎◌, ℕ, Bool, true, false, IsTrue, Option, Some, Result, Ok, IfErr, OnErr, OnOk, is_some}
use Rattle.std.specs.Global.{Global}
use Rattle.ipx_carrier.specs.declared.datagrams.Datagrams as OfDevice
use Rattle.ipx_ethernet_ports.specs.declared.end_sockets.EndSockets as OfSockets
use Rattle.ipx_ethernet_ports.specs.declared.sockets.EthernetSockets.{EthernetSockets}
use Rattle.ipx_ipxnet_ports.specs.declared.place_sockets.PlaceSockets as OfPlaces
use Rattle.ipx_ipxnet_ports.specs.declared.sockets.ServerSockets.{ServerSockets}
use Rattle.ipx_metrics.specs.MeteredRouter.{CountedView}
use Rattle.ipx_sockets.specs.declared.source_filter.SourceFilter.{SourceFilter}
use Rattle.ipx_sockets.specs.declared.sockets.UdpSockets.{UdpSockets}
use Rattle.ipx_sockets.specs.Moments.{AreLoggedIfDue, HasPassed}
use Rattle.ipx_site.specs.ClientLog.{all_clients, clients_logged}
use Rattle.ipx_site.specs.ClientsFile.{IsClientsFileDue, IsListKept, IsRefusedFile}
use Rattle.ipx_site.specs.IdleTime.{look_after}
use Rattle.ipx_site.specs.KnownNow.{AreNetworksKnown, AreServicesKnown, LeavesKnown}
use Rattle.ipx_site.specs.PortsView.{SitePortsRun}
use Rattle.ipx_site.specs.RepeatLog.{repeats_of_ports}
use Rattle.ipx_site.specs.RouterMetrics.{with_file, with_refusal}
use Rattle.ipx_site.specs.SiteCore.{SiteCore}
use Rattle.ipx_site.specs.declared.client_log.ClientLog.{ClientLog}
use Rattle.ipx_site.specs.declared.clients_file.ClientsFile.{ClientsFile}
use Rattle.ipx_site.specs.declared.drop_log.DropLog.{DropLog}
use Rattle.ipx_site.specs.declared.route_change_log.RouteChangeLog.{RouteChangeLog}
use Rattle.ipx_site.specs.declared.router_counts.RouterCounts.{RouterCounts}
use Rattle.ipx_site.specs.declared.warnings.Warnings.{Warnings}
use Rattle.ipx_site.specs.declared.written_files.WriteFault.{WriteFault}
use Rattle.ipx_site.specs.declared.written_files.WrittenFile.TheVariants.{Metrics, Secret, Tables}

-- what a running router notes of its work, and the paths of its files, if it has them
pub record WorkNotes : Type 0 where
  pub totals : RouterCounts
  pub warnings : Warnings
  pub drops : DropLog
  -- when it last wrote its files
  pub written : Option ℕ
  -- when it last looked at what it knows, how many responses it had heard by then, and what it knew
  pub looked : Option ℕ
  pub responses : ℕ
  pub known : RouteChangeLog
  -- which clients it logged, and which its file lists
  pub client_log : ClientLog
  pub clients_file : ClientsFile
  pub tables_file : Option (String Global)
  pub metrics_file : Option (String Global)

-- what was refused in a round: memory for a look at the clients, memory for a look at what it knows, and its files
pub record Refusals : Type 0 where
  pub clients : Bool
  pub known : Bool
  pub tables : Result (Unit {0}) WriteFault
  pub metrics : Result (Unit {0}) WriteFault
  pub secret : Result (Unit {0}) WriteFault

-- each of these is counted once, and nothing else is
abbrev pub with_refusals : Refusals → RouterCounts → RouterCounts
with_refusals r t = with_file Secret r.secret (with_file Metrics r.metrics (with_file Tables r.tables
    (with_refusal r.known (with_refusal r.clients t))))

-- this time is noted exactly if so many milliseconds have passed since the last one; otherwise that is unchanged
abbrev pub IsDoneIfDue : ℕ → ℕ → Option ℕ → Option ℕ → Type 0
IsDoneIfDue period now before after = (HasPassed period before now → after ≡ Some now)
    × ((HasPassed period before now → ⊥) → after ≡ before)

-- a look at the clients, if a second has passed since the last one. If memory is refused for it, the clients that it
-- noted stay. Otherwise it notes the changes of at most ten lines; the rest are left for later. It tells who registers
-- again and again, if that is due. A look that is not due changes nothing
abbrev pub LooksAtClients : {gd : OfDevice.Ghosts (SourceFilter UdpSockets)} {ge : OfSockets.Ghosts EthernetSockets} {gl : OfPlaces.Ghosts ServerSockets} → Bool → SitePortsRun gd ge gl → ℕ → ClientLog → ClientLog → Type 0
LooksAtClients refused ports now old new =
    ((HasPassed 1000 old.looked now → ⊥) → (refused ≡ false) × (new ≡ old))
    × (HasPassed 1000 old.looked now → new.looked ≡ Some now)
    × (HasPassed 1000 old.looked now → refused ≡ false → new.logged.items
    ≡ clients_logged old.logged.items (all_clients 1 ports.port_indices.items ports.servers.servers.items))
    × (HasPassed 1000 old.looked now
    → AreLoggedIfDue (repeats_of_ports ports.servers.servers.items ports.port_indices.items) now old.repeats.ports new.repeats.ports)
    × (refused ≡ true → new.logged ≡ old.logged)

-- a look at what a router knows, if it is due. If memory is refused for it, the services that it noted stay;
-- otherwise it notes what is known then. A look that is not due changes nothing
abbrev pub LooksAtKnown : Bool → CountedView → ℕ → Option ℕ → Option ℕ → ℕ → ℕ → RouteChangeLog → RouteChangeLog → Type 0
LooksAtKnown refused c now looked looked_after responses responses_after old new =
    ((HasPassed (look_after c.outcomes.heard responses) looked now → ⊥)
    → (refused ≡ false) × (looked_after ≡ looked) × (responses_after ≡ responses) × (new ≡ old))
    × (HasPassed (look_after c.outcomes.heard responses) looked now
    → (looked_after ≡ Some now) × (responses_after ≡ c.outcomes.heard)
    × (refused ≡ false → AreNetworksKnown c.router now new.networks.items × AreServicesKnown c.router now new.services.items)
    × (refused ≡ true → LeavesKnown c.router now old new))

-- a file may be refused only if the router has it, and it is to be written
abbrev pub IsRefusedIfDue : Bool → Type 0 → Result (Unit {0}) WriteFault → Type 0
IsRefusedIfDue has due done = OnErr done (IsTrue has × due)

-- the file of the secret is compared with the clients, if that is due, and written exactly if they are others. If it is
-- refused, it lists those of before, and counts as written when it did, or at this time. If the system refused it, that
-- is this time, so it is not tried again for a minute
pub record KeepsClients {gd : OfDevice.Ghosts (SourceFilter UdpSockets)} {ge : OfSockets.Ghosts EthernetSockets} {gl : OfPlaces.Ghosts ServerSockets} (done : Result (Unit {0}) WriteFault) (ports : SitePortsRun gd ge gl) (now : ℕ) (old new : ClientsFile) : Type 0 where
  pub early : (IsClientsFileDue old now → ⊥) → (done ≡ Ok tt) × (new ≡ old)
  pub looked : IsClientsFileDue old now → new.looked ≡ Some now
  pub refused : OnErr done ((new.listed ≡ old.listed) × ((new.written ≡ old.written) ⊎ (new.written ≡ Some now)))
  pub failed : IfErr done (λ e. IsRefusedFile e → new.written ≡ Some now)
  pub kept : IsClientsFileDue old now → OnOk done (IsListKept ports.servers.servers.items now old new)
  pub rest : (new.path ≡ old.path) × (new.secret ≡ old.secret)

-- in a round a router looks at its clients and at what it knows, and writes its files. It does each if it is due and
-- not refused. Nothing is refused that is not due. The paths of its files stay
pub record DoesUnless {gd : OfDevice.Ghosts (SourceFilter UdpSockets)} {ge : OfSockets.Ghosts EthernetSockets} {gl : OfPlaces.Ghosts ServerSockets} (refused : Refusals) (ports : SitePortsRun gd ge gl) (core : SiteCore) (now : ℕ) (before after : WorkNotes) : Type 0 where
  pub clients : LooksAtClients refused.clients ports now before.client_log after.client_log
  pub known : LooksAtKnown refused.known core.core.core.core now before.looked after.looked before.responses
      after.responses before.known after.known
  pub tables : IsRefusedIfDue (is_some before.tables_file) (HasPassed 10000 before.written now) refused.tables
  pub metrics : IsRefusedIfDue (is_some before.metrics_file) (HasPassed 10000 before.written now) refused.metrics
  pub secret : KeepsClients refused.secret ports now before.clients_file after.clients_file
  pub tables_file : after.tables_file ≡ before.tables_file
  pub metrics_file : after.metrics_file ≡ before.metrics_file

-- ---- definitions for private functions

-- the table file and the metrics file are counted if they were refused, in this order, and nothing else is
abbrev pub CountsFiles : Bool → Bool → Type 0 → RouterCounts → RouterCounts → Type 0
CountsFiles has_tables has_metrics due old new = (tables metrics : Result (Unit {0}) WriteFault)
    × IsRefusedIfDue has_tables due tables × IsRefusedIfDue has_metrics due metrics
    × (new ≡ with_file Metrics metrics (with_file Tables tables old))
