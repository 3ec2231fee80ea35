use Rattle.std.proofs.Common.{◌∙◌}
use Rattle.ipx_config.specs.Checked.{ethernet_end_text}
use Rattle.ipx_config.proofs.Printed.{texts_more}
use Rattle.ipx_config.proofs.start_lines.ends_to_text.Goals as goal

pub loop-end-preserved : goal.loop-end-preserved
loop-end-preserved c =
    c.in_ok-push_str.ensures.bytes
    ∙ texts_more ethernet_end_text c.args.ends.now c.loop-end.end-index _ _ _ c.loop-end-test.true c.loop-end.invariant (c.deref.ensures ∙ c.in_ok-place.ensures)
