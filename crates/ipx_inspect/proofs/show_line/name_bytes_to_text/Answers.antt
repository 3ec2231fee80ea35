use Rattle.std.proofs.Common.{◌∙◌}
use Rattle.ipx_inspect.specs.ShowLine.{name_byte}
use Rattle.ipx_inspect.proofs.Places.{texts_more}
use Rattle.ipx_inspect.proofs.show_line.name_bytes_to_text.Goals as goal

pub loop-byte-preserved : goal.loop-byte-preserved
loop-byte-preserved c =
    c.in_ok-push_str.ensures.bytes ∙ texts_more name_byte c.args.bytes.now c.loop-byte.byte-index 0 _ _ c.loop-byte-test.true c.loop-byte.invariant (c.deref.ensures ∙ c.in_ok-part.ensures)
