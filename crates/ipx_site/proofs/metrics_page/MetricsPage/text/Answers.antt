use Rattle.std.proofs.Common.{◌∙◌, ◌++◌, ap, string_bytes}
use Rattle.ipx_site.specs.AccessListMetrics.{access_list_families}
use Rattle.ipx_site.specs.MetricsText.{families_text}
use Rattle.ipx_site.specs.FrameFamilies.{frame_families}
use Rattle.ipx_site.specs.IpxnetFamilies.{ipxnet_families}
use Rattle.ipx_site.specs.NeighbourFamilies.{neighbour_families}
use Rattle.ipx_site.specs.PortFamilies.{port_families}
use Rattle.ipx_site.specs.TotalFamilies.{total_families}
use Rattle.ipx_site.specs.TunnelFamilies.{tunnel_families}
use Rattle.ipx_site.proofs.MetricLines.{seven_lists}
use Rattle.ipx_site.proofs.metrics_page.MetricsPage.text.Goals as goal

pub returns : goal.returns
returns c =
    let page = c.args.self.now in
    let listed = c.in_ok-put_neighbour_metrics.ensures.0 in
    record {
      neighbours = listed;
      first = c.in_ok-put_neighbour_metrics.ensures.1;
      spelled = seven_lists _ _ _ _ _ _ _ (total_families page.totals) (port_families page.router.now.ports page.counters.now)
          (access_list_families page.port_indices.now page.filtered.now) (neighbour_families page.now listed) (frame_families page.ethernet.now) (tunnel_families page.tunnels.now.ports.items) (ipxnet_families page.ipxnet.now)
          c.in_ok-text.ensures
          (c.in_ok-put_port_metrics.ensures ∙ ap (λ l. string_bytes c.in_ok-text.text ++ families_text (port_families l page.counters.now)) c.ports.ensures.ports)
          c.in_ok-put_access_list_metrics.ensures.put c.in_ok-put_neighbour_metrics.ensures.2 c.in_ok-put_frame_metrics.ensures c.in_ok-put_tunnel_metrics.ensures c.in_ok-put_ipxnet_metrics.ensures;
    }
