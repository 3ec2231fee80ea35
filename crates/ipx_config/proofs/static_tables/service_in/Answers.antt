use Rattle.std.proofs.Common.{inl, inr}
use Rattle.std.proofs.lemmas.Result.{err_from_is_err_and}
use Rattle.toml.specs.View.{table_view}
use Rattle.ipx_config.specs.StaticTables.{IsServiceFault}
use Rattle.ipx_config.proofs.Faults.{or_memory}
use Rattle.ipx_config.proofs.static_tables.service_in.Goals as goal

pub returns-in_err-near-clause-fault : goal.returns-in_err-near-clause-fault
returns-in_err-near-clause-fault c =
    let p = err_from_is_err_and c.from_residual-in_err-near.result c.from_residual-in_err-near.ensures.1 in
    rw (p.1, p.2)
    (or_memory {B = IsServiceFault c.args.ports.now (table_view c.args.table.now) c.args.number c.in_err-near.field-0.0} _
    (λ fault. inr (c.in_ok-refuse_unknown.ensures.known, inl fault))
    c.in_err-near.ensures.fault)

pub returns-in_err-service-clause-fault : goal.returns-in_err-service-clause-fault
returns-in_err-service-clause-fault c =
    let p = err_from_is_err_and c.from_residual-in_err-service.result c.from_residual-in_err-service.ensures.1 in
    rw (p.1, p.2)
    (or_memory {B = IsServiceFault c.args.ports.now (table_view c.args.table.now) c.args.number c.in_err-service.field-0.0} _
    (λ fault. inr (c.in_ok-refuse_unknown.ensures.known, inr (c.in_ok-near.near, c.in_ok-near.ensures.near, fault)))
    c.in_err-service.ensures.fault)
