use Rattle.std.proofs.Common.{inl, inr, [], List, sym, subst}
use Rattle.std.proofs.lemmas.Result.{err_from_is_err_and}
use Rattle.toml.specs.View.{items_view, table_view}
use Rattle.ipx_config.specs.declared.key.Key.TheVariants as Key
use Rattle.ipx_config.specs.declared.site.PortConfig.{PortConfig}
use Rattle.ipx_config.specs.Site.{ArePorts}
use Rattle.ipx_config.specs.Values.{IsThirdFileName}
use Rattle.ipx_config.proofs.Faults.{or_memory, right_if}
use Rattle.ipx_config.proofs.Own.{own_of}
use Rattle.ipx_config.proofs.reading.site_of.Goals as goal

pub returns-in_err-tables_file-clause-fault : goal.returns-in_err-tables_file-clause-fault
returns-in_err-tables_file-clause-fault c =
    let p = err_from_is_err_and c.from_residual-in_err-tables_file.result c.from_residual-in_err-tables_file.ensures.1 in
    rw (p.1, p.2)
    (or_memory _ (λ fault. inr (c.in_ok-refuse_unknown.ensures.known, inr (c.in_ok-metrics_file.metrics_file, c.in_ok-metrics_file.ensures, inl fault)))
    c.in_err-tables_file.ensures)

pub returns-in_err-secret_file-clause-fault : goal.returns-in_err-secret_file-clause-fault
returns-in_err-secret_file-clause-fault c =
    let p = err_from_is_err_and c.from_residual-in_err-secret_file.result c.from_residual-in_err-secret_file.ensures.1 in
    rw (p.1, p.2)
    (or_memory _ (λ fault. inr (c.in_ok-refuse_unknown.ensures.known, inr (c.in_ok-metrics_file.metrics_file, c.in_ok-metrics_file.ensures, inr (c.in_ok-tables_file.tables_file, c.in_ok-tables_file.ensures, inl fault))))
    c.in_err-secret_file.ensures)

pub returns-in_err-values-clause-fault : goal.returns-in_err-values-clause-fault
returns-in_err-values-clause-fault c =
    let p = err_from_is_err_and c.from_residual-in_err-values.result c.from_residual-in_err-values.ensures.1 in
    let ms = table_view c.args.table.now in
    rw (p.1, p.2)
    (inr (inr (
      c.in_ok-refuse_unknown.ensures.known,
      inr (
        c.in_ok-metrics_file.metrics_file,
        c.in_ok-metrics_file.ensures,
        inr (c.in_ok-tables_file.tables_file, c.in_ok-tables_file.ensures, inr (right_if (IsThirdFileName c.in_ok-metrics_file.metrics_file c.in_ok-tables_file.tables_file) Key.SecretFile ms c.in_ok-secret_file.secret_file c.in_ok-secret_file.ensures, inl c.in_err-values.ensures)),
      ),
    )))

pub returns-in_err-ports-clause-fault : goal.returns-in_err-ports-clause-fault
returns-in_err-ports-clause-fault c =
    let p = err_from_is_err_and c.from_residual-in_err-ports.result c.from_residual-in_err-ports.ensures.1 in
    let ms = table_view c.args.table.now in
    rw (p.1, p.2)
    (or_memory _ (λ fault. inr (
      c.in_ok-refuse_unknown.ensures.known,
      inr (
        c.in_ok-metrics_file.metrics_file,
        c.in_ok-metrics_file.ensures,
        inr (c.in_ok-tables_file.tables_file, c.in_ok-tables_file.ensures, inr (right_if (IsThirdFileName c.in_ok-metrics_file.metrics_file c.in_ok-tables_file.tables_file) Key.SecretFile ms c.in_ok-secret_file.secret_file c.in_ok-secret_file.ensures, inr (items_view c.in_ok-values.values.now, c.in_ok-values.ensures, inl fault))),
      ),
    ))
    c.in_err-ports.ensures.fault)

pub returns-clause-own : goal.returns-clause-own
returns-clause-own c =
    own_of [] (items_view c.in_ok-values.values.now) c.in_ok-ports.ports.items c.in_ok-ports.ensures.ports

pub returns-in_err-statics-clause-fault : goal.returns-in_err-statics-clause-fault
returns-in_err-statics-clause-fault c =
    let p = err_from_is_err_and c.from_residual-in_err-statics.result c.from_residual-in_err-statics.ensures.1 in
    let ms = table_view c.args.table.now in
    let ports = subst (λ (ps : List PortConfig). ArePorts [] (items_view c.in_ok-values.values.now) ps) (sym c.deref.ensures.value) c.in_ok-ports.ensures.ports in
    rw (p.1, p.2)
    (or_memory _ (λ fault. inr (
      c.in_ok-refuse_unknown.ensures.known,
      inr (
        c.in_ok-metrics_file.metrics_file,
        c.in_ok-metrics_file.ensures,
        inr (c.in_ok-tables_file.tables_file, c.in_ok-tables_file.ensures, inr (right_if (IsThirdFileName c.in_ok-metrics_file.metrics_file c.in_ok-tables_file.tables_file) Key.SecretFile ms c.in_ok-secret_file.secret_file c.in_ok-secret_file.ensures, inr (items_view c.in_ok-values.values.now, c.in_ok-values.ensures, inr (c.deref.result.now, ports, fault)))),
      ),
    ))
    c.in_err-statics.ensures.fault)
