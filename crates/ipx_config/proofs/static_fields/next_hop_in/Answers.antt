use Rattle.std.proofs.Common.{◌∙◌, ap, inr, sym}
use Rattle.std.specs.Prelude.{option_copied}
use Rattle.std.proofs.lemmas.Result.{err_from_is_err_and}
use Rattle.toml.specs.View.{table_view}
use Rattle.ipx_router.specs.declared.port.Port.{Port}
use Rattle.ipx_config.specs.StaticFields.{IsNearFault}
use Rattle.ipx_config.proofs.Faults.{or_memory}
use Rattle.ipx_config.proofs.static_fields.next_hop_in.Goals as goal

pub returns-in_err-neighbour-clause-fault : goal.returns-in_err-neighbour-clause-fault
returns-in_err-neighbour-clause-fault c =
    let p = err_from_is_err_and c.from_residual-in_err-neighbour.result c.from_residual-in_err-neighbour.ensures.1 in
    let there = sym c.numbered_port.ensures ∙ ap option_copied c.in-Some.is in
    rw (p.1, p.2)
    (or_memory {B = IsNearFault c.args.ports.now (table_view c.args.table.now) c.args.number c.in_err-neighbour.field-0.0} _ (λ fault. inr (c.in_ok-count.count, c.in_ok-count.ensures, inr (c.in-Some.port.now, there, fault)))
    c.in_err-neighbour.ensures.fault)

pub returns-clause-near : goal.returns-clause-near
returns-clause-near c =
    let there = sym c.numbered_port.ensures ∙ ap option_copied c.in-Some.is in
    (c.in_ok-count.ensures, (c.in-Some.port.now, there, c.in_ok-neighbour.ensures.node, ap (λ (p : Port). p.cost) c.router_port.ensures))
