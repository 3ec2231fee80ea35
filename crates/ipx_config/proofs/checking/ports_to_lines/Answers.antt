use Rattle.std.proofs.Common.{◌∙◌, ap, take}
use Rattle.ipx_config.specs.declared.site.PortConfig.{PortConfig}
use Rattle.ipx_config.specs.Checked.{port_lines}
use Rattle.ipx_config.proofs.Printed.{behind_more}
use Rattle.ipx_config.proofs.checking.ports_to_lines.Goals as goal

pub loop-place-preserved : goal.loop-place-preserved
loop-place-preserved c =
    let ports = c.args.ports.now in
    let i = c.loop-place.place in
    c.in_ok-push_str.ensures.bytes
    ∙ behind_more port_lines ports i c.index-ports-place.result _ _ c.loop-place-test.true c.loop-place.invariant
    (c.deref.ensures ∙ c.in_ok-of_port.ensures ∙ ap (λ (p : PortConfig). port_lines (take i ports) p) c.index-ports-place.is)
