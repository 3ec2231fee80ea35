use Rattle.std.proofs.Common.{◌∙◌, ap, refl}
use Rattle.std.proofs.lemmas.Result.{IfOk-weaker}
use Rattle.ipx_site.proofs.running_router.RunningRouter.metrics_text.Goals as goal

pub returns : goal.returns
returns g c =
    let core = c.core-core.ensures ∙ ap (λ k. k.core) (c.core-2.ensures ∙ ap (λ k. k.core) c.core.ensures) in
    IfOk-weaker c.text.result _ _ (λ t spelled. record {
      page = record {
        totals = c.metrics.result;
        router = c.router.result.now;
        now = c.args.now;
        counters = c.port_counters.result.now;
        port_indices = c.port_indices.result.now;
        filtered = c.port_counters-2.result.now;
        ethernet = c.in_ok-ethernet.ethernet;
        tunnels = c.in_ok-tunnels.tunnels.ports.items;
        ipxnet = c.in_ok-ipxnet.ipxnet;
      };
      counted = c.metrics.ensures.metrics;
      happened = c.metrics.ensures.happened;
      router = c.router.ensures ∙ ap (λ k. k.router) core;
      at = refl;
      counters = c.port_counters.ensures.counts ∙ ap (λ k. k.port_counters) core;
      port_indices = c.port_indices.ensures;
      filtered = c.port_counters-2.ensures ∙ ap (λ d. d.port_counters) c.device.ensures;
      ethernet = c.in_ok-ethernet.ensures.ports;
      tunnels = c.in_ok-tunnels.ensures;
      frames_unknown = c.in_ok-ethernet.ensures.unknown_senders;
      frames_sent = c.in_ok-ethernet.ensures.sent;
      ipxnet = c.in_ok-ipxnet.ensures.ports;
      ipxnet_unknown = c.in_ok-ipxnet.ensures.unknown_senders;
      ipxnet_sent = c.in_ok-ipxnet.ensures.sent;
      spelled = spelled;
    }) c.text.ensures
