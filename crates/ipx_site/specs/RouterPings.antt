-- The pings that a running router sends before its turns. Defined by this project.
use Rattle.std.specs.Prelude.{◌≡◌, ℕ, true, None, length, min}
use Rattle.ipx_carrier.specs.declared.datagrams.Datagrams as OfDevice
use Rattle.ipx_ipxnet_ports.specs.OnServers.{PingsThroughSockets, ServersView, servers_view}
use Rattle.ipx_ipxnet_ports.specs.declared.place_sockets.PlaceSockets as OfPlaces
use Rattle.ipx_ipxnet_ports.specs.declared.sockets.ServerSockets.{ServerSockets}
use Rattle.ipx_ethernet_ports.specs.declared.end_sockets.EndSockets as OfSockets
use Rattle.ipx_ethernet_ports.specs.declared.sockets.EthernetSockets.{EthernetSockets}
use Rattle.ipx_sockets.specs.declared.source_filter.SourceFilter.{SourceFilter}
use Rattle.ipx_sockets.specs.declared.sockets.UdpSockets.{UdpSockets}
use Rattle.ipx_site.specs.PortsView.{SitePortsRun}

-- its ipxnet ports; their sockets record no traffic
abbrev pub ipxnet_in : {gd : OfDevice.Ghosts (SourceFilter UdpSockets)} {ge : OfSockets.Ghosts EthernetSockets} {gl : OfPlaces.Ghosts ServerSockets} → SitePortsRun gd ge gl → ServersView
ipxnet_in r = servers_view r.servers.servers.items r.servers.kept None r.servers.sockets.failures

-- the ports as the turns of a round begin: they have this time, and the pings that are due then were sent at all
-- ipxnet ports. Their sockets were handed just these. Nothing else was sent or received
abbrev pub BeginsTurns : {gd : OfDevice.Ghosts (SourceFilter UdpSockets)} {ge : OfSockets.Ghosts EthernetSockets} {gl : OfPlaces.Ghosts ServerSockets} → ℕ → SitePortsRun gd ge gl → SitePortsRun gd ge gl → Type 0
BeginsTurns {gd} {ge} {gl} now old new =
    PingsThroughSockets gl.sends now (min (length old.servers.servers.items) (length old.servers.sockets.sockets.items))
    (ipxnet_in old) (ipxnet_in new) old.servers.sockets new.servers.sockets
    × (new.pinged ≡ true) × (new.servers.moment ≡ now) × (new.ethernet ≡ record old.ethernet { moment = now })
    × (new.datagrams ≡ old.datagrams) × (new.port_indices ≡ old.port_indices)
