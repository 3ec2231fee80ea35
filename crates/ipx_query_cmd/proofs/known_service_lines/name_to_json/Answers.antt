use Rattle.std.proofs.Common.{◌∙◌}
use Rattle.ipx_query_cmd.specs.KnownLines.{known_json_byte}
use Rattle.ipx_query_cmd.proofs.Rows.{texts_more}
use Rattle.ipx_query_cmd.proofs.known_service_lines.name_to_json.Goals as goal

pub loop-byte-preserved : goal.loop-byte-preserved
loop-byte-preserved c =
    c.in_ok-push_str.ensures.bytes
    ∙ texts_more known_json_byte c.args.name.now c.loop-byte.byte-index _ _ _ c.loop-byte-test.true c.loop-byte.invariant (c.deref.ensures ∙ c.in_ok-part.ensures)
