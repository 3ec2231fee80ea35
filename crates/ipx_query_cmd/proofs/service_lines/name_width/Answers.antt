use Rattle.std.proofs.Common.{◌≡◌, ◌∙◌, ap, length, rules, string_bytes}
use Rattle.ipx_query_cmd.specs.OperatorLines.{name_of_told}
use Rattle.ipx_query_cmd.proofs.Rows.{width_more}
use Rattle.ipx_query_cmd.proofs.service_lines.name_width.Goals as goal

pub loop-told-preserved : goal.loop-told-preserved
loop-told-preserved c =
    let same : c.as_bytes.result.now ≡ string_bytes c.in_ok-name.name = search rules in
    c.max-width.ensures
    ∙ width_more name_of_told c.args.listed.now c.loop-told.told-index _ _ _ c.loop-told-test.true c.loop-told.invariant (ap length same ∙ ap length c.in_ok-name.ensures)
