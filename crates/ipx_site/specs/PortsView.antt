-- The ports of a site's router as its core sees them: how packets are sent, and how many were dropped before
-- it. Defined by this project.
use Rattle.std.specs.Prelude.{ℕ, ◌+◌, map}
use Rattle.ipx_carrier.specs.Turns.{Ways, peers_of}
use Rattle.ipx_carrier.specs.declared.datagrams.Datagrams as OfDevice
use Rattle.ipx_ipxnet_ports.specs.declared.place_sockets.PlaceSockets as OfPlaces
use Rattle.ipx_ipxnet_ports.specs.declared.sockets.ServerSockets.{ServerSockets}
use Rattle.ipx_ethernet_ports.specs.declared.end_sockets.EndSockets as OfSockets
use Rattle.ipx_ethernet_ports.specs.declared.sockets.EthernetSockets.{EthernetSockets}
use Rattle.ipx_sockets.specs.declared.source_filter.SourceFilter.{SourceFilter}
use Rattle.ipx_site.specs.declared.router_ports.RouterPorts.{RouterPorts}
use Rattle.ipx_sockets.specs.declared.sockets.UdpSockets.{UdpSockets}
use Rattle.ipx_site.specs.RouterPorts.{PortCopy, by_kind}
use Rattle.ipx_sockets.specs.SourceFilter.{drops_in}

-- the ports of a site, over their sockets
abbrev pub SitePortsRun : OfDevice.Ghosts (SourceFilter UdpSockets) → OfSockets.Ghosts EthernetSockets → OfPlaces.Ghosts ServerSockets → Type 0
SitePortsRun gd ge gl = RouterPorts (SourceFilter UdpSockets) EthernetSockets ServerSockets gd ge gl

abbrev pub ways_in : {gd : OfDevice.Ghosts (SourceFilter UdpSockets)} {ge : OfSockets.Ghosts EthernetSockets} {gl : OfPlaces.Ghosts ServerSockets} → SitePortsRun gd ge gl → Ways PortCopy
ways_in r = by_kind (peers_of r.datagrams.peers.items) (map (λ h. h.port) r.ethernet.switches.items) r.port_indices.items

-- what access lists dropped, frames that a switch dropped, datagrams from no remote or without a frame in the
-- tunnel, what ipxnet servers dropped, and what came to them from unknown places
abbrev pub filtered_in_ports : {gd : OfDevice.Ghosts (SourceFilter UdpSockets)} {ge : OfSockets.Ghosts EthernetSockets} {gl : OfPlaces.Ghosts ServerSockets} → SitePortsRun gd ge gl → ℕ
filtered_in_ports r = drops_in r.datagrams.device.kept + (r.ethernet.kept + r.ethernet.sockets.filtered)
    + (r.servers.kept + r.servers.sockets.nowhere)
