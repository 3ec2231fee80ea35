use Rattle.std.proofs.Common.{◌∙◌, ap}
use Rattle.std.proofs.lemmas.List.{take_all}
use Rattle.ipx_config.specs.Checked.{port_texts}
use Rattle.ipx_config.proofs.Numbered.{one_more_text}
use Rattle.ipx_config.proofs.start_lines.ports_to_texts.Goals as goal

pub loop-place-preserved : goal.loop-place-preserved
loop-place-preserved c =
    one_more_text c.args.ports.now c.loop-place.place c.index-ports-place.result c.loop-place.texts.items _ c.in_ok-text.text
    c.loop-place-test.true c.index-ports-place.is c.loop-place.invariant c.in_ok-push.ensures.items c.in_ok-text.ensures

pub returns : goal.returns
returns c = c.loop-place.invariant ∙ ap (port_texts 1) (take_all c.loop-place.place c.args.ports.now c.loop-place-test.false)
