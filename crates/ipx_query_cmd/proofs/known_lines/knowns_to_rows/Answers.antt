use Rattle.std.proofs.Common.{◌∙◌}
use Rattle.ipx_table_dump.specs.TableRead.{network_spelled}
use Rattle.ipx_query_cmd.specs.KnownLines.{known_network_row}
use Rattle.ipx_query_cmd.proofs.Rows.{words_more}
use Rattle.ipx_query_cmd.proofs.known_lines.knowns_to_rows.Goals as goal

pub loop-best-preserved : goal.loop-best-preserved
loop-best-preserved c =
    c.in_ok-push_str.ensures.bytes
    ∙ words_more known_network_row network_spelled c.args.bests.now c.loop-best.best-index _ _ _ c.loop-best-test.true c.loop-best.invariant (c.deref.ensures ∙ c.in_ok-row.ensures)
