-- What a router counts itself, and what its metrics contain. Defined by this project.
use Rattle.std.specs.Prelude.{◌≡◌, ℕ, ◌+◌, ◌/◌, Bool, true, false, List, Option, Some, None, Result, Ok, Err, length, slice_get}
use Rattle.ipx_carrier.specs.Counting.{counted, raised}
use Rattle.ipx_carrier.specs.Mapping.{ip_at}
use Rattle.ipx_carrier.specs.OutcomeCounters.{outcomes_in}
use Rattle.ipx_carrier.specs.declared.fault.RunFault.{RunFault}
use Rattle.ipx_carrier.specs.declared.fault.RunFault.TheVariants.{Device, OutOfMemory}
use Rattle.ipx_rate_limits.specs.declared.querier.Querier.{Querier}
use Rattle.ipx_wire.specs.declared.address.Node.{Node}
use Rattle.ipx_site.specs.IpxnetTotals.{IsOfLastFlood}
use Rattle.ipx_site.specs.SiteCore.{SiteCore}
use Rattle.ipx_site.specs.declared.metrics.Metrics.{Metrics}
use Rattle.ipx_site.specs.declared.router_counts.RouterCounts.{RouterCounts}
use Rattle.ipx_site.specs.declared.router_ports.PortIndex.{PortIndex}
use Rattle.ipx_site.specs.declared.router_ports.PortIndex.TheVariants.{Datagrams, Ethernet, IpxnetServer}
use Rattle.ipx_carrier.specs.declared.datagrams.Datagrams as OfDevice
use Rattle.ipx_ipxnet_ports.specs.declared.place_sockets.PlaceSockets as OfPlaces
use Rattle.ipx_ipxnet_ports.specs.declared.sockets.ServerSockets.{ServerSockets}
use Rattle.ipx_ethernet_ports.specs.declared.end_sockets.EndSockets as OfSockets
use Rattle.ipx_ethernet_ports.specs.declared.sockets.EthernetSockets.{EthernetSockets}
use Rattle.ipx_sockets.specs.declared.source_filter.SourceFilter.{SourceFilter}
use Rattle.ipx_sockets.specs.declared.sockets.UdpSockets.{UdpSockets}
use Rattle.ipx_site.specs.PortsView.{SitePortsRun}
use Rattle.ipx_carrier.specs.declared.report.Batch.{Batch}
use Rattle.ipx_site.specs.declared.route_change_log.RouteChangeLog.{RouteChangeLog}
use Rattle.ipx_site.specs.declared.written_files.WriteFault.{WriteFault}
use Rattle.ipx_site.specs.declared.written_files.WriteFault.TheVariants as Faults
use Rattle.ipx_site.specs.declared.written_files.WrittenFile.{WrittenFile}

-- nothing has been counted
abbrev pub no_counts : RouterCounts
no_counts = record { unmapped = 0; device_faults = 0; memory_faults = 0; file_faults = 0; last_file_fault = None }

-- it ran out of memory once more
abbrev pub with_memory_fault : RouterCounts → RouterCounts
with_memory_fault t = record t { memory_faults = raised t.memory_faults }

-- the fault that ended a batch is counted by its kind
abbrev pub with_fault : Option RunFault → RouterCounts → RouterCounts
with_fault None t = t
with_fault (Some Device) t = record t { device_faults = raised t.device_faults }
with_fault (Some OutOfMemory) t = with_memory_fault t

-- a batch is counted: the packets whose node has no IP address, and the fault that ended it
abbrev pub with_batch : Batch → RouterCounts → RouterCounts
with_batch b t = with_fault b.fault (record t { unmapped = counted (t.unmapped + b.unmapped) })

-- memory is counted if it was refused
abbrev pub with_refusal : Bool → RouterCounts → RouterCounts
with_refusal true t = with_memory_fault t
with_refusal false t = t

-- a file is counted if it was not written: as memory that was refused, or as a fault of this file
abbrev pub with_file : WrittenFile → Result (Unit {0}) WriteFault → RouterCounts → RouterCounts
with_file file (Ok done) t = t
with_file file (Err Faults.OutOfMemory) t = with_memory_fault t
with_file file (Err (Faults.File error)) t = record t {
  file_faults = raised t.file_faults;
  last_file_fault = Some (record { file = file; error = error });
}

-- the IP address of a node at a port. Only at an RFC 1234 port is it in the node: that of a station, or of a
-- player, may begin with two zero bytes too
abbrev pub node_ip : Option PortIndex → Node → Option (List ℕ)
node_ip None node = None
node_ip (Some (Datagrams place)) node = ip_at node
node_ip (Some (Ethernet place)) node = None
node_ip (Some (IpxnetServer place)) node = None

-- that of who sent a query, if there was one
abbrev pub querier_ip : List PortIndex → Option Querier → Option (List ℕ)
querier_ip port_indices None = None
querier_ip port_indices (Some who) = node_ip (slice_get port_indices who.port) who.node

-- the metrics of a router at a time, in milliseconds since its start, without the counts that are logged.
-- They come from its own counters, those of its core and those of its device: what it dropped, and how many
-- datagrams the system took. The networks and services are those known at the last look
pub record AreMetrics {gd : OfDevice.Ghosts (SourceFilter UdpSockets)} {ge : OfSockets.Ghosts EthernetSockets} {gl : OfPlaces.Ghosts ServerSockets} (totals : RouterCounts) (core : SiteCore) (ports : SitePortsRun gd ge gl) (known : RouteChangeLog) (now : ℕ) (f : Metrics) : Type 0 where
  -- each datagram that was processed has one outcome. A query that came too often is not counted, and neither
  -- is a packet that failed a source check
  pub heard : f.heard ≡ counted (outcomes_in core.core.core.core.outcomes)
  pub outcomes : f.outcomes ≡ core.core.core.core.outcomes
  pub last_table_full : f.last_table_full ≡ core.core.core.core.last.table_full
  pub rate_limited : f.rate_limited ≡ core.core.kept
  pub rate_limited_ip : f.rate_limited_ip ≡ querier_ip ports.port_indices.items core.core.kept.last
  pub directed : f.directed ≡ core.core.directed
  pub source_drops : f.source_drops ≡ core.drops
  pub filtered : f.kept ≡ ports.datagrams.device.kept
  pub last_refused : f.last_refused ≡ ports.datagrams.device.last_refused
  pub frame_unknown_last : f.frame_last_unknown ≡ ports.ethernet.sockets.last_unknown
  pub ipxnet_unknown_last : f.ipxnet_unknown_senders.last ≡ ports.servers.sockets.last_unknown
  pub ipxnet_last_limited : IsOfLastFlood ports.servers.servers.items f.ipxnet_last_limited
  pub sent_out : f.sent ≡ ports.datagrams.device.device.sent
  pub unmapped : f.unmapped ≡ totals.unmapped
  pub last_not_sent : f.last_not_sent ≡ ports.datagrams.device.device.last_not_sent
  pub last_file_fault : f.last_file_fault ≡ totals.last_file_fault
  pub queue : f.queue ≡ length core.core.core.core.queues.forwarded + length core.core.core.core.queues.own
  pub routes : f.routes ≡ length known.networks.items
  pub services : f.services ≡ length known.services.items
  pub seconds : f.seconds ≡ now / 1000
