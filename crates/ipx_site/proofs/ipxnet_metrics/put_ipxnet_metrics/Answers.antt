use Rattle.std.proofs.Common.{◌∙◌, ◌++◌, ap, refl, string_bytes, sym}
use Rattle.ipx_site.specs.MetricsText.{family_lines}
use Rattle.ipx_site.specs.IpxnetFamilies.{clients_family, server_families, servers_dropped_family}
use Rattle.ipx_site.proofs.MetricLines.{grew, grew_more, grew_unless}
use Rattle.ipx_site.proofs.ipxnet_metrics.put_ipxnet_metrics.Goals as goal

pub returns : goal.returns
returns c =
    let clients = grew _ _ _ (c.in_ok-put_clients.ensures ∙ ap (λ l. string_bytes c.args.text.now ++ family_lines (clients_family l)) c.deref.ensures.value) in
    let dropped = grew_more _ _ _ _ _ clients (c.in_ok-put_dropped.ensures ∙ ap (λ l. string_bytes c.put_clients.new.text ++ family_lines (servers_dropped_family l)) c.deref-2.ensures.value) in
    let unknown = grew_more _ _ _ _ _ dropped c.in_ok-put_one.ensures in
    grew_unless c.put_one-2.result _ _ _ _ _ _ (server_families c.args.metrics.now) unknown c.put_one-2.ensures (sym c.is_empty.ensures ∙ c.if-is_empty.false) refl
