use Rattle.std.proofs.Common.{◌∙◌, codes, refl}
use Rattle.std.specs.List.{flat_map}
use Rattle.ipx_site.specs.MetricsText.{at_port_by, sample_line}
use Rattle.ipx_site.specs.TunnelFamilies.{drop_reasons}
use Rattle.ipx_table_dump.proofs.Rows.{texts_more}
use Rattle.ipx_site.proofs.MetricLines.{lists_after_head}
use Rattle.ipx_site.proofs.tunnel_metrics.put_ports.Goals as goal

pub loop-port-preserved : goal.loop-port-preserved
loop-port-preserved c =
    c.in_ok-put_drops.ensures ∙ texts_more (λ p. flat_map (sample_line (codes "ipx_tunnel_dropped_total")) (at_port_by p.number (codes "reason") (drop_reasons p.drops))) c.args.ports.now c.loop-port.port-index _ _ _ _ c.loop-port-test.true c.loop-port.invariant refl

pub returns : goal.returns
returns c =
    lists_after_head (sample_line (codes "ipx_tunnel_dropped_total")) (λ p. at_port_by p.number (codes "reason") (drop_reasons p.drops)) c.args.ports.now c.loop-port.port-index _ _ _ _ c.loop-port-test.false c.in_ok-put_family.ensures c.loop-port.invariant
