-- The text of the metrics file. Defined by this project. The entry point is `IsMetricsPage`.
use Rattle.std.specs.Prelude.{◌≡◌, ◌++◌, ℕ, List}
use Rattle.ipx_site.specs.AccessListMetrics.{access_list_families}
use Rattle.ipx_site.specs.MetricsText.{MetricFamily, families_text}
use Rattle.ipx_site.specs.FrameFamilies.{frame_families}
use Rattle.ipx_site.specs.IpxnetFamilies.{ipxnet_families}
use Rattle.ipx_site.specs.NeighbourFamilies.{neighbour_families}
use Rattle.ipx_site.specs.PortFamilies.{port_families}
use Rattle.ipx_site.specs.TotalFamilies.{total_families}
use Rattle.ipx_site.specs.TunnelFamilies.{tunnel_families}
use Rattle.ipx_table_dump.specs.declared.advertisers.Advertiser.{Advertiser}
use Rattle.ipx_metrics.specs.declared.port_counts.PortCounts.{PortCounts}
use Rattle.ipx_sockets.specs.declared.port_filter_drops.PortFilterDrops.{PortFilterDrops}
use Rattle.ipx_site.specs.declared.router_ports.PortIndex.{PortIndex}
use Rattle.ipx_router.specs.RouterView.{RouterView}
use Rattle.ipx_table_dump.specs.FirstAdvertisers.{AreFirstAdvertisers}
use Rattle.ipx_tables.specs.declared.source.Source.{Source}
use Rattle.ipx_site.specs.declared.frame_metrics.EthernetMetrics.{EthernetMetrics}
use Rattle.ipx_site.specs.declared.ipxnet_metrics.IpxnetMetrics.{IpxnetMetrics}
use Rattle.ipx_site.specs.declared.metrics.Metrics.{Metrics}
use Rattle.ipx_site.specs.declared.tunnel_metrics.TunnelPortMetrics.{TunnelPortMetrics}

-- all that a page tells
pub record PageFigures : Type 0 where
  pub totals : Metrics
  pub router : RouterView
  -- the time, in milliseconds since the start of the router
  pub now : ℕ
  -- what is counted at each port, its index among the ports of its kind, and what access lists dropped
  pub counters : List PortCounts
  pub port_indices : List PortIndex
  pub filtered : List PortFilterDrops
  pub ethernet : EthernetMetrics
  pub tunnels : List TunnelPortMetrics
  pub ipxnet : IpxnetMetrics

-- the families of a page, in their order
abbrev pub page_families : PageFigures → List (Source × Advertiser) → List MetricFamily
page_families p neighbours =
    total_families p.totals ++ (port_families p.router.ports p.counters
    ++ (access_list_families p.port_indices p.filtered ++ (neighbour_families p.now neighbours
    ++ (frame_families p.ethernet ++ (tunnel_families p.tunnels ++ ipxnet_families p.ipxnet)))))

-- a text has these families, with the neighbours that the router has at that time
pub record IsMetricsPage (p : PageFigures) (text : List ℕ) : Type 0 where
  pub neighbours : List (Source × Advertiser)
  pub first : AreFirstAdvertisers p.router.routes p.router.services p.now neighbours
  pub spelled : text ≡ families_text (page_families p neighbours)
