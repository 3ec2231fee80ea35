use Rattle.std.proofs.Common.{◌∙◌, ◌++◌, [], ap, append-nil, option_map, sym}
use Rattle.std.specs.List.{cons_option}
use Rattle.ipx_site.specs.TunnelFamilies.{drops_at_port, port_drops}
use Rattle.ipx_site.proofs.MetricLines.{found_more}
use Rattle.ipx_site.proofs.tunnel_metrics.tunnel_metrics.Goals as goal
use Rattle.ipx_site.proofs.tunnel_metrics.tunnel_metrics.Goals.{in-Some+in_ok-push, in_default}

pub loop-place-preserved : goal.loop-place-preserved
loop-place-preserved c =
    elim c.match-metrics_at.branch [
      | in-Some+in_ok-push w ↦
          found_more (λ p. option_map (port_drops p.0) (drops_at_port c.args.ports.now.ethernet.sockets.ethernet.items p.1)) c.port_indices-port_index-items.result.now c.loop-place.place _ c.metrics_at.result _ _
          c.loop-place-test.true c.loop-place.invariant c.metrics_at.ensures (ap (λ v. v.items) w.metrics-is ∙ w.in_ok-push.ensures.items ∙ ap (λ o. c.loop-place.metrics.items ++ cons_option o []) (sym w.in-Some.is))
      | in_default w ↦
          found_more (λ p. option_map (port_drops p.0) (drops_at_port c.args.ports.now.ethernet.sockets.ethernet.items p.1)) c.port_indices-port_index-items.result.now c.loop-place.place _ c.metrics_at.result _ _
          c.loop-place-test.true c.loop-place.invariant c.metrics_at.ensures (ap (λ v. v.items) w.metrics-is ∙ sym (append-nil c.loop-place.metrics.items) ∙ ap (λ o. c.loop-place.metrics.items ++ cons_option o []) (sym w.in_default.is))
    ]
