-- The marks of the ports of a running router, of all kinds, and at which of them something came. Defined by
-- this project.
use Rattle.std.specs.Prelude.{◌≡◌, ℤ, Bool, List, ◌++◌}
use Rattle.ipx_carrier.specs.declared.datagrams.Datagrams as OfDevice
use Rattle.ipx_ipxnet_ports.specs.declared.place_sockets.PlaceSockets as OfPlaces
use Rattle.ipx_ipxnet_ports.specs.declared.sockets.ServerSockets.{ServerSockets}
use Rattle.ipx_ethernet_ports.specs.declared.end_sockets.EndSockets as OfSockets
use Rattle.ipx_ethernet_ports.specs.declared.sockets.EthernetSockets.{EthernetSockets}
use Rattle.ipx_sockets.specs.declared.source_filter.SourceFilter.{SourceFilter}
use Rattle.ipx_sockets.specs.declared.sockets.UdpSockets.{UdpSockets}
use Rattle.ipx_carrier.specs.Readiness.{Readiness}
use Rattle.ipx_carrier.specs.ReadySet.{is_port_marked}
use Rattle.ipx_ethernet_ports.specs.EthernetAddresses.{ethernet_fds}
use Rattle.ipx_ipxnet_ports.specs.ServerAddresses.{server_fds}
use Rattle.ipx_site.specs.PortsView.{SitePortsRun}
use Rattle.ipx_site.specs.RouterMarks.{marked_by_kind}
use Rattle.ipx_sockets.specs.Senders.{udp_fds}

-- the mark of each port of a router, by the indices of its ports
abbrev pub marks_of_ports : {gd : OfDevice.Ghosts (SourceFilter UdpSockets)} {ge : OfSockets.Ghosts EthernetSockets} {gl : OfPlaces.Ghosts ServerSockets} → SitePortsRun gd ge gl → Readiness
marks_of_ports r = marked_by_kind (is_port_marked r.datagrams.device.device.marks)
    (is_port_marked r.ethernet.sockets.marks) (is_port_marked r.servers.sockets.marks) r.port_indices.items

-- the marks of RFC 1234 ports, then of Ethernet ports, then of ipxnet ports. A poller numbers their
-- descriptors in this order
abbrev pub marks_in : {gd : OfDevice.Ghosts (SourceFilter UdpSockets)} {ge : OfSockets.Ghosts EthernetSockets} {gl : OfPlaces.Ghosts ServerSockets} → SitePortsRun gd ge gl → List Bool
marks_in r = r.datagrams.device.device.marks ++ (r.ethernet.sockets.marks ++ r.servers.sockets.marks)

-- the descriptors of the sockets of RFC 1234 ports, then of Ethernet ports, then of ipxnet ports
abbrev pub port_fds : {gd : OfDevice.Ghosts (SourceFilter UdpSockets)} {ge : OfSockets.Ghosts EthernetSockets} {gl : OfPlaces.Ghosts ServerSockets} → SitePortsRun gd ge gl → List ℤ
port_fds r = (udp_fds r.datagrams.device.device.sockets.items ++ ethernet_fds r.ethernet.sockets.ethernet.items)
    ++ server_fds r.servers.sockets.sockets.items

-- ports differ in their marks alone
pub record DifferInMarks {gd : OfDevice.Ghosts (SourceFilter UdpSockets)} {ge : OfSockets.Ghosts EthernetSockets} {gl : OfPlaces.Ghosts ServerSockets} (old new : SitePortsRun gd ge gl) : Type 0 where
  pub datagrams : new.datagrams ≡ record old.datagrams { device = record old.datagrams.device { device = record old.datagrams.device.device { marks = new.datagrams.device.device.marks } } }
  pub ethernet : new.ethernet ≡ record old.ethernet { sockets = record old.ethernet.sockets { marks = new.ethernet.sockets.marks } }
  pub servers : new.servers ≡ record old.servers { sockets = record old.servers.sockets { marks = new.servers.sockets.marks } }
  pub port_indices : new.port_indices ≡ old.port_indices
  pub pinged : new.pinged ≡ old.pinged

-- these ports are others with marks set after that, of which this holds
abbrev pub AfterMarks : {gd : OfDevice.Ghosts (SourceFilter UdpSockets)} {ge : OfSockets.Ghosts EthernetSockets} {gl : OfPlaces.Ghosts ServerSockets} → (SitePortsRun gd ge gl → Type 0) → SitePortsRun gd ge gl → Type 0
AfterMarks {gd} {ge} {gl} holds new = (ended : SitePortsRun gd ge gl) × holds ended × DifferInMarks ended new
