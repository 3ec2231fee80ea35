use Rattle.std.proofs.Common.{◌∙◌}
use Rattle.ipx_query_cmd.specs.OperatorLines.{service_row}
use Rattle.ipx_query_cmd.proofs.Rows.{texts_more}
use Rattle.ipx_query_cmd.proofs.service_lines.services_to_rows.Goals as goal

pub loop-told-preserved : goal.loop-told-preserved
loop-told-preserved c =
    c.in_ok-push_str.ensures.bytes
    ∙ texts_more (service_row c.args.kinds c.args.names) c.args.listed.now c.loop-told.told-index _ _ _ c.loop-told-test.true c.loop-told.invariant (c.deref.ensures ∙ c.in_ok-row.ensures)
