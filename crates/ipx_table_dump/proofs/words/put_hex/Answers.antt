use Rattle.std.proofs.Common.{◌∙◌}
use Rattle.ipx_table_dump.proofs.Rows.{hex_more, hex_none}
use Rattle.ipx_table_dump.proofs.words.put_hex.Goals as goal

pub loop-byte-init : goal.loop-byte-init
loop-byte-init c = hex_none _

pub loop-byte-preserved : goal.loop-byte-preserved
loop-byte-preserved c =
    c.in_ok-put_byte.ensures
    ∙ hex_more c.args.bytes.now c.loop-byte.byte-index _ _ _ c.loop-byte-test.true c.loop-byte.invariant
