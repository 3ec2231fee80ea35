-- What a running router does by itself, and how long it has nothing to do. Defined by this project.
use Rattle.std.specs.Prelude.{◌≡◌, ◌≤◌, ◌<◌, ◌⊎◌, ◌==◌, ℕ, ◌+◌, List, [], ◌∷◌, length, true, Option, if◌then◌else◌, Some, slice_get}
use Rattle.ipx_router.specs.Advertisements.{is_due}
use Rattle.ipx_site.specs.declared.metrics.Metrics.{Metrics}
use Rattle.ipx_site.specs.declared.router_counts.RouterCounts.{RouterCounts}
use Rattle.ipx_carrier.specs.declared.datagrams.Datagrams as OfDevice
use Rattle.ipx_ipxnet_ports.specs.OnServers.{is_any_pinged}
use Rattle.ipx_ipxnet_ports.specs.declared.place_sockets.PlaceSockets as OfPlaces
use Rattle.ipx_ipxnet_ports.specs.declared.sockets.ServerSockets.{ServerSockets}
use Rattle.ipx_ethernet_ports.specs.declared.end_sockets.EndSockets as OfSockets
use Rattle.ipx_ethernet_ports.specs.declared.sockets.EthernetSockets.{EthernetSockets}
use Rattle.ipxnet_server.specs.ServerHears.{ServerView}
use Rattle.ipx_sockets.specs.declared.source_filter.SourceFilter.{SourceFilter}
use Rattle.ipx_sockets.specs.declared.sockets.UdpSockets.{UdpSockets}
use Rattle.ipx_site.specs.PortsView.{SitePortsRun}
use Rattle.ipx_site.specs.declared.warnings.Warnings.{Warnings}
use Rattle.ipx_carrier.specs.Counting.{counted}
use Rattle.ipx_carrier.specs.PriorityRouterCore.{PriorityQueues}
use Rattle.ipx_sockets.specs.Moments.{HasPassed, IsOneDue}
use Rattle.ipx_site.specs.SiteCore.{SiteCore}
use Rattle.ipx_site.specs.ClientLog.{IsClientLookDue}
use Rattle.ipx_site.specs.declared.client_log.ClientLog.{ClientLog}
use Rattle.ipx_site.specs.EthernetTotals.{encapsulated_otherwise_in, unframed_in}
use Rattle.ipx_site.specs.IpxnetTotals.{busy_in, full_in, full_of_address_in, rate_limited_in}

-- the times at which a router repeats its requests, in milliseconds since its start
abbrev pub askings : List ℕ
askings = 1000 ∷ 2000 ∷ 4000 ∷ 8000 ∷ 16000 ∷ 32000 ∷ []

-- a router that repeated its requests `times` times is to repeat them once more
abbrev pub IsToAskAgain : ℕ → ℕ → Type 0
IsToAskAgain times now = (moment : ℕ) × (slice_get askings times ≡ Some moment) × (moment ≤ now)

-- how often each cause of a log line occurred
pub record EventCounts : Type 0 where
  pub unknown_senders : ℕ
  pub spoofed : ℕ
  pub not_a_router : ℕ
  pub rate_limited : ℕ
  pub directed : ℕ
  pub refused : ℕ
  pub table_full : ℕ
  pub queue_full : ℕ
  pub device : ℕ
  pub memory : ℕ
  pub file : ℕ
  pub frame_unknown_senders : ℕ
  pub ipxnet_unknown_senders : ℕ
  pub unframed : ℕ
  pub other_encapsulation : ℕ
  pub ipxnet_full : ℕ
  pub ipxnet_full_of_address : ℕ
  pub ipxnet_rate_limited : ℕ
  pub ipxnet_busy : ℕ

-- as its metrics say
abbrev pub happened_in : Metrics → EventCounts
happened_in f = record {
  unknown_senders = f.kept.unknown_senders.count;
  spoofed = f.kept.spoofed.count;
  not_a_router = f.kept.not_a_router.count;
  rate_limited = f.rate_limited.count;
  directed = f.directed.count;
  refused = f.refused;
  table_full = f.outcomes.table_full;
  queue_full = f.queue_full;
  device = f.device_faults;
  memory = f.memory_faults;
  file = f.file_faults;
  frame_unknown_senders = f.frame_unknown_senders;
  ipxnet_unknown_senders = f.ipxnet_unknown_senders.count;
  unframed = f.unframed;
  other_encapsulation = f.other_encapsulation;
  ipxnet_full = f.ipxnet_full;
  ipxnet_full_of_address = f.ipxnet_full_of_address;
  ipxnet_rate_limited = f.ipxnet_rate_limited;
  ipxnet_busy = f.ipxnet_busy;
}

-- how many datagrams and frames the system refused
abbrev pub lost_in : {gd : OfDevice.Ghosts (SourceFilter UdpSockets)} {ge : OfSockets.Ghosts EthernetSockets} {gl : OfPlaces.Ghosts ServerSockets} → SitePortsRun gd ge gl → ℕ
lost_in r = r.datagrams.device.device.faults + (r.ethernet.sockets.failures + r.ethernet.sockets.faults)
    + (r.servers.sockets.failures + r.servers.sockets.faults)

-- as its own counters, those of its core, and those of its ports say
abbrev pub happened : {gd : OfDevice.Ghosts (SourceFilter UdpSockets)} {ge : OfSockets.Ghosts EthernetSockets} {gl : OfPlaces.Ghosts ServerSockets} → RouterCounts → SiteCore → SitePortsRun gd ge gl → EventCounts
happened totals core ports = record {
  unknown_senders = ports.datagrams.device.kept.unknown_senders.count;
  spoofed = ports.datagrams.device.kept.spoofed.count;
  not_a_router = ports.datagrams.device.kept.not_a_router.count;
  rate_limited = core.core.kept.count;
  directed = core.core.directed.count;
  refused = ports.datagrams.device.refused;
  table_full = core.core.core.core.outcomes.table_full;
  queue_full = core.core.core.core.dropped;
  device = counted (totals.device_faults + lost_in ports);
  memory = totals.memory_faults;
  file = totals.file_faults;
  frame_unknown_senders = ports.ethernet.sockets.unknown_senders;
  ipxnet_unknown_senders = ports.servers.sockets.nowhere;
  unframed = unframed_in ports.ethernet.switches.items;
  other_encapsulation = encapsulated_otherwise_in ports.ethernet.switches.items;
  ipxnet_full = full_in ports.servers.servers.items;
  ipxnet_full_of_address = full_of_address_in ports.servers.servers.items;
  ipxnet_rate_limited = rate_limited_in ports.servers.servers.items;
  ipxnet_busy = busy_in ports.servers.servers.items;
}

-- in the order of the log lines
abbrev pub counts_to_log : EventCounts → List ℕ
counts_to_log n = n.unknown_senders ∷ n.spoofed ∷ n.not_a_router ∷ n.rate_limited ∷ n.refused ∷ n.table_full
    ∷ n.queue_full ∷ n.device ∷ n.memory ∷ n.file ∷ n.frame_unknown_senders ∷ n.unframed
    ∷ n.other_encapsulation ∷ n.directed ∷ n.ipxnet_unknown_senders ∷ n.ipxnet_full
    ∷ n.ipxnet_full_of_address ∷ n.ipxnet_rate_limited ∷ n.ipxnet_busy ∷ []

-- a line for one of a router's causes is due
abbrev pub IsLineDue : Warnings → EventCounts → ℕ → Type 0
IsLineDue t n now = IsOneDue t.causes (counts_to_log n) now

-- all that the work of a router by itself depends on
pub record Deadlines : Type 0 where
  -- how often it repeated its requests
  pub asked : ℕ
  -- when it last looked at what it knows, and how many responses it had heard by then
  pub looked : Option ℕ
  pub responses : ℕ
  -- when it last wrote its metrics
  pub written : Option ℕ
  pub core : SiteCore
  pub warnings : Warnings
  -- which clients it logged, and when it last looked at them
  pub clients : ClientLog
  pub count : EventCounts
  -- the servers of its ipxnet ports, with their clients
  pub servers : List ServerView

abbrev pub deadlines : ℕ → Option ℕ → ℕ → Option ℕ → SiteCore → Warnings → ClientLog → EventCounts → List ServerView → Deadlines
deadlines asked looked responses written core warnings clients count servers = record {
  asked = asked;
  looked = looked;
  responses = responses;
  written = written;
  core = core;
  warnings = warnings;
  clients = clients;
  count = count;
  servers = servers;
}

-- it looks at what it knows every ten seconds, or one second after the last look if a response was heard
-- since
abbrev pub look_after : ℕ → ℕ → ℕ
look_after heard responses = if heard == responses then 10000 else 1000

-- packets wait to be sent
abbrev pub IsToSend : PriorityQueues → Type 0
IsToSend q = 0 < length q.forwarded + length q.own

-- there is something to do: send what waits, repeat requests, advertise to neighbours, hear static entries,
-- ping a silent client, look at what it knows, write the metrics, log a line, or look at its clients
abbrev pub IsDue : Deadlines → ℕ → Type 0
IsDue a now = IsToSend a.core.core.core.core.queues
    ⊎ IsToAskAgain a.asked now
    ⊎ (is_due a.core.core.core.core.router.advertised_at now ≡ true)
    ⊎ (is_due a.core.core.core.refreshed_at now ≡ true)
    ⊎ (is_any_pinged a.servers now ≡ true)
    ⊎ HasPassed (look_after a.core.core.core.core.outcomes.heard a.responses) a.looked now
    ⊎ HasPassed 10000 a.written now
    ⊎ IsLineDue a.warnings a.count now
    ⊎ IsClientLookDue a.clients a.servers now

-- ---- definitions for private functions
