use Rattle.std.proofs.Common.{◌∙◌, refl}
use Rattle.ipx_inspect.specs.ShowLine.{name_byte}
use Rattle.ipx_table_dump.proofs.Rows.{texts_more}
use Rattle.ipx_table_dump.proofs.words.put_name_bytes.Goals as goal

pub loop-byte-preserved : goal.loop-byte-preserved
loop-byte-preserved c =
    c.in_ok-put_name_byte.ensures
    ∙ texts_more name_byte c.args.bytes.now c.loop-byte.byte-index _ _ _ _ c.loop-byte-test.true c.loop-byte.invariant refl
