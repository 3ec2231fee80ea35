use Rattle.std.proofs.Common.{◌∙◌, codes, refl}
use Rattle.ipx_site.specs.MetricsText.{at_port, sample_line}
use Rattle.ipx_table_dump.proofs.Rows.{texts_more}
use Rattle.ipx_site.proofs.MetricLines.{lines_after_head}
use Rattle.ipx_site.proofs.ipxnet_metrics.put_clients.Goals as goal

pub loop-port-preserved : goal.loop-port-preserved
loop-port-preserved c =
    c.in_ok-put_of_port.ensures ∙ texts_more (λ p. sample_line (codes "ipx_ipxnet_clients") (at_port p.number p.clients)) c.args.ports.now c.loop-port.port-index _ _ _ _ c.loop-port-test.true c.loop-port.invariant refl

pub returns : goal.returns
returns c =
    lines_after_head (sample_line (codes "ipx_ipxnet_clients")) (λ p. at_port p.number p.clients) c.args.ports.now c.loop-port.port-index _ _ _ _ c.loop-port-test.false c.in_ok-put_family.ensures c.loop-port.invariant
