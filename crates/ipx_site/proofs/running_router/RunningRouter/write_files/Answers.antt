use Rattle.std.proofs.Common.{◌∙◌, Ok, ap, refl}
use Rattle.std.proofs.lemmas.Result.{on_err_weaker}
use Rattle.ipx_site.specs.RouterMetrics.{with_file}
use Rattle.ipx_site.specs.declared.written_files.WrittenFile.TheVariants.{Metrics, Tables}
use Rattle.ipx_site.proofs.running_router.RunningRouter.write_files.Goals as goal

pub returns-then-not-is_over-clause-totals : goal.returns-then-not-is_over-clause-totals
returns-then-not-is_over-clause-totals g c = (Ok tt, Ok tt, tt, tt, refl)

pub returns-clause-totals : goal.returns-clause-totals
returns-clause-totals g c =
    let tables = c.write_tables-tables.result in
    let metrics = c.write_metrics-metrics.result in
    let due = c.is_over.ensures.0 c.if-not-is_over.false in (
      tables,
      metrics,
      on_err_weaker tables (λ has. (has, due)) c.write_tables-tables.ensures,
      on_err_weaker metrics (λ has. (has, due)) c.write_metrics-metrics.ensures,
      c.count_file-2.ensures ∙ ap (with_file Metrics metrics) c.count_file.ensures,
    )
