use Rattle.std.proofs.Common.{◌∙◌}
use Rattle.ipx_control.specs.declared.rip.packet.RipEntry.{RipEntry}
use Rattle.ipx_inspect.specs.ShowLine.{rip_entry_line}
use Rattle.ipx_inspect.proofs.Places.{texts_more}
use Rattle.ipx_inspect.proofs.show_line.rip_entries_to_lines.Goals as goal

no_entry : RipEntry
no_entry = record { network = record { 0 = 0 }; hops = 0; ticks = 0 }

pub loop-entry-preserved : goal.loop-entry-preserved
unfolding no_entry
loop-entry-preserved c =
    c.in_ok-push_str.ensures.bytes ∙ texts_more rip_entry_line c.args.entries.now c.loop-entry.entry-index no_entry _ _ c.loop-entry-test.true c.loop-entry.invariant (c.deref.ensures ∙ c.in_ok-line.ensures)
