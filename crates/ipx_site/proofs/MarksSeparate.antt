-- How the core of a site's router sees its ports does not depend on their marks.
use Rattle.std.proofs.Common.{◌≡◌, ◌∙◌, ◌+◌, ℕ, List, ap, map, refl}
use Rattle.ipx_carrier.specs.Counting.{counted}
use Rattle.ipx_carrier.specs.Turns.{peers_of}
use Rattle.ipx_carrier.specs.declared.datagrams.Datagrams as OfDevice
use Rattle.ipx_ipxnet_ports.specs.declared.place_sockets.PlaceSockets as OfPlaces
use Rattle.ipx_carrier.specs.declared.owned_rfc1234_ports.OwnedRfc1234Ports.{OwnedRfc1234Ports}
use Rattle.ipx_ethernet_ports.specs.declared.ethernet_ports.EthernetPorts.{EthernetPorts}
use Rattle.ipx_ipxnet_ports.specs.declared.server_ports.Servers.{Servers}
use Rattle.ipx_ipxnet_ports.specs.declared.sockets.ServerSockets.{ServerSockets}
use Rattle.ipx_ethernet_ports.specs.declared.end_sockets.EndSockets as OfSockets
use Rattle.ipx_ethernet_ports.specs.declared.sockets.EthernetSockets.{EthernetSockets}
use Rattle.ipx_ethernet.specs.Heard.{SwitchView}
use Rattle.ipx_sockets.specs.declared.source_filter.FilterDrops.{FilterDrops}
use Rattle.ipx_sockets.specs.declared.source_filter.SourceFilter.{SourceFilter}
use Rattle.ipx_site.specs.declared.router_counts.RouterCounts.{RouterCounts}
use Rattle.ipx_sockets.specs.declared.sockets.UdpSockets.{UdpSockets}
use Rattle.ipx_site.specs.IdleTime.{EventCounts, happened}
use Rattle.ipx_site.specs.PortsView.{SitePortsRun, ways_in}
use Rattle.ipx_site.specs.RouterPorts.{by_kind}
use Rattle.ipx_site.specs.SiteMarks.{DifferInMarks}
use Rattle.ipx_site.specs.SiteCore.{SiteCore}
use Rattle.ipx_site.specs.EthernetTotals.{encapsulated_otherwise_in, unframed_in}
use Rattle.ipx_site.specs.IpxnetTotals.{busy_in, full_in, full_of_address_in, rate_limited_in}
use Rattle.ipxnet_server.specs.ServerHears.{ServerView}

-- how often each cause occurred, by what the three kinds of ports say of it
abbrev of_parts : RouterCounts → SiteCore → FilterDrops → ℕ → ℕ → List SwitchView → ℕ → ℕ → ℕ → ℕ → List ServerView → EventCounts
of_parts totals core kept refused faults switches unknown_senders ethernet_faults server_faults nowhere servers = record {
  unknown_senders = kept.unknown_senders.count;
  spoofed = kept.spoofed.count;
  not_a_router = kept.not_a_router.count;
  rate_limited = core.core.kept.count;
  directed = core.core.directed.count;
  refused = refused;
  table_full = core.core.core.core.outcomes.table_full;
  queue_full = core.core.core.core.dropped;
  device = counted (totals.device_faults + (faults + ethernet_faults + server_faults));
  memory = totals.memory_faults;
  file = totals.file_faults;
  frame_unknown_senders = unknown_senders;
  ipxnet_unknown_senders = nowhere;
  unframed = unframed_in switches;
  other_encapsulation = encapsulated_otherwise_in switches;
  ipxnet_full = full_in servers;
  ipxnet_full_of_address = full_of_address_in servers;
  ipxnet_rate_limited = rate_limited_in servers;
  ipxnet_busy = busy_in servers;
}

module _ {gd : OfDevice.Ghosts (SourceFilter UdpSockets)} {ge : OfSockets.Ghosts EthernetSockets} {gl : OfPlaces.Ghosts ServerSockets} (r : SitePortsRun gd ge gl) where
  pub same_marks : DifferInMarks r r
  same_marks = record { datagrams = refl; ethernet = refl; servers = refl; port_indices = refl; pinged = refl }

module _ {gd : OfDevice.Ghosts (SourceFilter UdpSockets)} {ge : OfSockets.Ghosts EthernetSockets} {gl : OfPlaces.Ghosts ServerSockets} (r s t : SitePortsRun gd ge gl) where
  pub marks_on : DifferInMarks r s → DifferInMarks s t → DifferInMarks r t
  marks_on m n = record {
    datagrams = n.datagrams ∙ ap {A = OwnedRfc1234Ports (SourceFilter UdpSockets)} (λ d. record d { device = record d.device { device = record d.device.device { marks = t.datagrams.device.device.marks } } }) m.datagrams;
    ethernet = n.ethernet ∙ ap {A = EthernetPorts EthernetSockets} (λ w. record w { sockets = record w.sockets { marks = t.ethernet.sockets.marks } }) m.ethernet;
    servers = n.servers ∙ ap {A = Servers ServerSockets} (λ l. record l { sockets = record l.sockets { marks = t.servers.sockets.marks } }) m.servers;
    port_indices = n.port_indices ∙ m.port_indices;
    pinged = n.pinged ∙ m.pinged;
  }

module _ {gd : OfDevice.Ghosts (SourceFilter UdpSockets)} {ge : OfSockets.Ghosts EthernetSockets} {gl : OfPlaces.Ghosts ServerSockets} (r s : SitePortsRun gd ge gl) (m : DifferInMarks r s) where
  pub ways_separate : ways_in s ≡ ways_in r
  ways_separate =
      ap (λ d. by_kind (peers_of d.peers.items) (map (λ h. h.port) s.ethernet.switches.items) s.port_indices.items) m.datagrams
      ∙ ap (λ w. by_kind (peers_of r.datagrams.peers.items) (map (λ h. h.port) w.switches.items) s.port_indices.items) m.ethernet
      ∙ ap (λ p. by_kind (peers_of r.datagrams.peers.items) (map (λ h. h.port) r.ethernet.switches.items) p.items) m.port_indices

  pub happened_separate : (totals : RouterCounts) (core : SiteCore) → happened totals core s ≡ happened totals core r
  happened_separate totals core =
      ap (λ d. of_parts totals core d.device.kept d.device.refused d.device.device.faults s.ethernet.switches.items s.ethernet.sockets.unknown_senders
      (s.ethernet.sockets.failures + s.ethernet.sockets.faults) (s.servers.sockets.failures + s.servers.sockets.faults) s.servers.sockets.nowhere s.servers.servers.items) m.datagrams
      ∙ ap (λ w. of_parts totals core r.datagrams.device.kept r.datagrams.device.refused r.datagrams.device.device.faults w.switches.items w.sockets.unknown_senders
      (w.sockets.failures + w.sockets.faults) (s.servers.sockets.failures + s.servers.sockets.faults) s.servers.sockets.nowhere s.servers.servers.items) m.ethernet
      ∙ ap (λ l. of_parts totals core r.datagrams.device.kept r.datagrams.device.refused r.datagrams.device.device.faults r.ethernet.switches.items r.ethernet.sockets.unknown_senders
      (r.ethernet.sockets.failures + r.ethernet.sockets.faults) (l.sockets.failures + l.sockets.faults) l.sockets.nowhere l.servers.items) m.servers
