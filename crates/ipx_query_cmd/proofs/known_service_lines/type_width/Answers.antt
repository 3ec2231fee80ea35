use Rattle.std.proofs.Common.{◌≡◌, ◌∙◌, ap, length, rules, string_bytes}
use Rattle.ipx_table_dump.specs.TableRead.{service_spelled}
use Rattle.ipx_query_cmd.specs.KnownLines.{kind_of_known}
use Rattle.ipx_query_cmd.proofs.Rows.{known_width_more}
use Rattle.ipx_query_cmd.proofs.known_service_lines.type_width.Goals as goal

pub loop-service-preserved : goal.loop-service-preserved
loop-service-preserved c =
    let same : c.as_bytes.result.now ≡ string_bytes c.in_ok-kind.kind = search rules in
    c.max-width.ensures
    ∙ known_width_more kind_of_known service_spelled c.args.services.now c.loop-service.service-index _ _ _ c.loop-service-test.true c.loop-service.invariant (ap length same ∙ ap length c.in_ok-kind.ensures)
