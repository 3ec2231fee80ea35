use Rattle.std.proofs.Common.{◌∙◌}
use Rattle.ipx_table_dump.specs.TableRead.{service_spelled}
use Rattle.ipx_query_cmd.specs.KnownLines.{known_service_row}
use Rattle.ipx_query_cmd.proofs.Rows.{words_more}
use Rattle.ipx_query_cmd.proofs.known_service_lines.knowns_to_rows.Goals as goal

pub loop-service-preserved : goal.loop-service-preserved
loop-service-preserved c =
    c.in_ok-push_str.ensures.bytes
    ∙ words_more (known_service_row c.args.kinds c.args.names) service_spelled c.args.services.now c.loop-service.service-index _ _ _ c.loop-service-test.true c.loop-service.invariant (c.deref.ensures ∙ c.in_ok-row.ensures)
