use Rattle.std.proofs.Common.{inl, inr}
use Rattle.std.proofs.lemmas.Result.{err_from_is_err_and}
use Rattle.toml.specs.View.{table_view}
use Rattle.ipx_config.specs.StaticTables.{IsRouteFault}
use Rattle.ipx_config.proofs.Faults.{or_memory}
use Rattle.ipx_config.proofs.static_tables.route_in.Goals as goal

pub returns-in_err-near-clause-fault : goal.returns-in_err-near-clause-fault
returns-in_err-near-clause-fault c =
    let p = err_from_is_err_and c.from_residual-in_err-near.result c.from_residual-in_err-near.ensures.1 in
    rw (p.1, p.2)
    (or_memory {B = IsRouteFault c.args.ports.now (table_view c.args.table.now) c.args.number c.in_err-near.field-0.0} _
    (λ fault. inr (c.in_ok-refuse_unknown.ensures.known, inl fault))
    c.in_err-near.ensures.fault)

pub returns-in_err-route-clause-fault : goal.returns-in_err-route-clause-fault
returns-in_err-route-clause-fault c =
    let p = err_from_is_err_and c.from_residual-in_err-route.result c.from_residual-in_err-route.ensures.1 in
    rw (p.1, p.2)
    (or_memory {B = IsRouteFault c.args.ports.now (table_view c.args.table.now) c.args.number c.in_err-route.field-0.0} _
    (λ fault. inr (c.in_ok-refuse_unknown.ensures.known, inr (c.in_ok-near.near, c.in_ok-near.ensures.near, fault)))
    c.in_err-route.ensures.fault)
