use Rattle.std.proofs.Common.{◌∙◌}
use Rattle.ipx_config.specs.Checked.{static_lines}
use Rattle.ipx_config.proofs.Printed.{texts_more}
use Rattle.ipx_config.proofs.static_lines.entries_to_lines.Goals as goal

pub loop-entry-preserved : goal.loop-entry-preserved
loop-entry-preserved c =
    c.in_ok-push_str.ensures.bytes
    ∙ texts_more (static_lines c.args.site.now) c.args.entries.now c.loop-entry.entry-index _ _ _ c.loop-entry-test.true c.loop-entry.invariant (c.deref.ensures ∙ c.in_ok-of_entry.ensures)
