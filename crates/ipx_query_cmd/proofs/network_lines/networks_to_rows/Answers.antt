use Rattle.std.proofs.Common.{◌∙◌}
use Rattle.ipx_query_cmd.specs.OperatorLines.{network_row}
use Rattle.ipx_query_cmd.proofs.Rows.{texts_more}
use Rattle.ipx_query_cmd.proofs.network_lines.networks_to_rows.Goals as goal

pub loop-told-preserved : goal.loop-told-preserved
loop-told-preserved c =
    c.in_ok-push_str.ensures.bytes
    ∙ texts_more network_row c.args.listed.now c.loop-told.told-index _ _ _ c.loop-told-test.true c.loop-told.invariant (c.deref.ensures ∙ c.in_ok-row.ensures)
