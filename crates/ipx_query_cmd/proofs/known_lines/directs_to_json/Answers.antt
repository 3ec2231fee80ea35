use Rattle.std.proofs.Common.{◌∙◌}
use Rattle.ipx_table_dump.specs.TableParts.{own_spelled}
use Rattle.ipx_query_cmd.specs.KnownLines.{direct_network_json}
use Rattle.ipx_query_cmd.proofs.Rows.{words_more}
use Rattle.ipx_query_cmd.proofs.known_lines.directs_to_json.Goals as goal

pub loop-own-preserved : goal.loop-own-preserved
loop-own-preserved c =
    c.in_ok-push_str.ensures.bytes
    ∙ words_more direct_network_json own_spelled c.args.owns.now c.loop-own.own-index _ _ _ c.loop-own-test.true c.loop-own.invariant (c.deref.ensures ∙ c.in_ok-line.ensures)
