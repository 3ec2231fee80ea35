use Rattle.std.proofs.Common.{inl, inr}
use Rattle.std.proofs.lemmas.Result.{err_from_is_err_and}
use Rattle.toml.specs.View.{table_view}
use Rattle.ipx_config.specs.StaticTables.{IsOfferedFault}
use Rattle.ipx_config.proofs.Faults.{or_memory}
use Rattle.ipx_config.proofs.static_tables.offered_in.Goals as goal

pub returns-in_err-at-clause-fault : goal.returns-in_err-at-clause-fault
returns-in_err-at-clause-fault c =
    let p = err_from_is_err_and c.from_residual-in_err-at.result c.from_residual-in_err-at.ensures.1 in
    rw (p.1, p.2)
    (or_memory {B = IsOfferedFault (table_view c.args.table.now) c.args.number c.in_err-at.field-0.0} _ (λ fault. inr (c.in_ok-kind.kind, c.in_ok-kind.ensures.kind, inr (c.in_ok-name.name, c.in_ok-name.ensures, inl fault)))
    c.in_err-at.ensures.fault)

pub returns-in_err-hops-clause-fault : goal.returns-in_err-hops-clause-fault
returns-in_err-hops-clause-fault c =
    let p = err_from_is_err_and c.from_residual-in_err-hops.result c.from_residual-in_err-hops.ensures.1 in
    rw (p.1, p.2)
    (or_memory {B = IsOfferedFault (table_view c.args.table.now) c.args.number c.in_err-hops.field-0.0} _ (λ fault. inr (c.in_ok-kind.kind, c.in_ok-kind.ensures.kind, inr (c.in_ok-name.name, c.in_ok-name.ensures, inr (c.in_ok-at.at, c.in_ok-at.ensures.place, fault))))
    c.in_err-hops.ensures)
