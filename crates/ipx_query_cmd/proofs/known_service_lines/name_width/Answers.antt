use Rattle.std.proofs.Common.{◌∙◌, refl}
use Rattle.ipx_table_dump.specs.TableRead.{service_spelled}
use Rattle.ipx_query_cmd.specs.KnownLines.{name_of_known}
use Rattle.ipx_query_cmd.proofs.Rows.{known_width_more}
use Rattle.ipx_query_cmd.proofs.known_service_lines.name_width.Goals as goal

pub loop-service-preserved : goal.loop-service-preserved
loop-service-preserved c =
    c.max-width.ensures
    ∙ known_width_more name_of_known service_spelled c.args.services.now c.loop-service.service-index _ _ _ c.loop-service-test.true c.loop-service.invariant refl
