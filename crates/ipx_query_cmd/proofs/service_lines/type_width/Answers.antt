use Rattle.std.proofs.Common.{◌≡◌, ◌∙◌, ap, length, rules, string_bytes}
use Rattle.ipx_query_cmd.specs.OperatorLines.{kind_of_told}
use Rattle.ipx_query_cmd.proofs.Rows.{width_more}
use Rattle.ipx_query_cmd.proofs.service_lines.type_width.Goals as goal

pub loop-told-preserved : goal.loop-told-preserved
loop-told-preserved c =
    let same : c.as_bytes.result.now ≡ string_bytes c.in_ok-kind.kind = search rules in
    c.max-width.ensures
    ∙ width_more kind_of_told c.args.listed.now c.loop-told.told-index _ _ _ c.loop-told-test.true c.loop-told.invariant (ap length same ∙ ap length c.in_ok-kind.ensures)
