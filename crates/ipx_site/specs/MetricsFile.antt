-- What the metrics file of a router says. Defined by this project. The entry point is `IsMetricsFile`.
use Rattle.std.specs.Prelude.{◌≡◌, ℕ, List}
use Rattle.ipx_carrier.specs.declared.datagrams.Datagrams as OfDevice
use Rattle.ipx_ethernet_ports.specs.declared.end_sockets.EndSockets as OfSockets
use Rattle.ipx_ethernet_ports.specs.declared.sockets.EthernetSockets.{EthernetSockets}
use Rattle.ipx_ipxnet_ports.specs.declared.place_sockets.PlaceSockets as OfPlaces
use Rattle.ipx_ipxnet_ports.specs.declared.sockets.ServerSockets.{ServerSockets}
use Rattle.ipx_sockets.specs.declared.source_filter.SourceFilter.{SourceFilter}
use Rattle.ipx_sockets.specs.declared.sockets.UdpSockets.{UdpSockets}
use Rattle.ipx_site.specs.IdleTime.{happened, happened_in}
use Rattle.ipx_site.specs.KindMetrics.{ethernet_ports, ipxnet_ports}
use Rattle.ipx_site.specs.MetricsPage.{IsMetricsPage, PageFigures}
use Rattle.ipx_site.specs.PortsView.{SitePortsRun}
use Rattle.ipx_site.specs.RouterMetrics.{AreMetrics}
use Rattle.ipx_site.specs.SiteCore.{SiteCore}
use Rattle.ipx_site.specs.TunnelFamilies.{tunnel_ports}
use Rattle.ipx_site.specs.declared.route_change_log.RouteChangeLog.{RouteChangeLog}
use Rattle.ipx_site.specs.declared.router_counts.RouterCounts.{RouterCounts}

-- a text is the page of a router's own counters at a time, in milliseconds since its start. It tells what the
-- router counts, its neighbours at that time, and what its switches, its ipxnet servers and their sockets count
pub record IsMetricsFile {gd : OfDevice.Ghosts (SourceFilter UdpSockets)} {ge : OfSockets.Ghosts EthernetSockets} {gl : OfPlaces.Ghosts ServerSockets} (totals : RouterCounts) (core : SiteCore) (ports : SitePortsRun gd ge gl) (known : RouteChangeLog) (now : ℕ) (text : List ℕ) : Type 0 where
  pub page : PageFigures
  pub counted : AreMetrics totals core ports known now page.totals
  pub happened : happened_in page.totals ≡ happened totals core ports
  pub router : page.router ≡ core.core.core.core.router
  pub at : page.now ≡ now
  pub counters : page.counters ≡ core.core.core.core.port_counters
  pub port_indices : page.port_indices ≡ ports.port_indices.items
  pub filtered : page.filtered ≡ ports.datagrams.device.port_counters
  pub ethernet : page.ethernet.ports.items ≡ ethernet_ports ports.ethernet.switches.items ports.port_indices.items
  pub tunnels : page.tunnels ≡ tunnel_ports ports.ethernet.sockets.ethernet.items ports.port_indices.items
  pub frames_unknown : page.ethernet.unknown_senders ≡ ports.ethernet.sockets.unknown_senders
  pub frames_sent : page.ethernet.sent ≡ ports.ethernet.sockets.sent
  pub ipxnet : page.ipxnet.ports.items ≡ ipxnet_ports ports.servers.servers.items ports.port_indices.items
  pub ipxnet_unknown : page.ipxnet.unknown_senders ≡ ports.servers.sockets.nowhere
  pub ipxnet_sent : page.ipxnet.sent ≡ ports.servers.sockets.sent
  pub spelled : IsMetricsPage page text
