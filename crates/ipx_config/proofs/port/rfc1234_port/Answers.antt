use Rattle.std.proofs.Common.{inl, inr}
use Rattle.std.proofs.lemmas.Result.{err_from_is_err_and}
use Rattle.toml.specs.View.{table_view}
use Rattle.ipx_config.specs.declared.key.Key.TheVariants as Key
use Rattle.ipx_config.specs.Port.{IsPortFault}
use Rattle.ipx_config.specs.Values.{IsCount}
use Rattle.ipx_config.proofs.Access.{accept_fault, directed_fault, routers_fault}
use Rattle.ipx_config.proofs.Faults.{or_memory, right_or}
use Rattle.ipx_config.proofs.port.rfc1234_port.Goals as goal

pub returns-in_err-cost-clause-fault : goal.returns-in_err-cost-clause-fault
returns-in_err-cost-clause-fault c =
    let p = err_from_is_err_and c.from_residual-in_err-cost.result c.from_residual-in_err-cost.ensures.1 in
    rw (p.1, p.2)
    (or_memory {B = IsPortFault c.args.number (table_view c.args.table.now) c.in_err-cost.field-0.0} _ (λ fault. inr (c.in_ok-refuse_stray.ensures.known, inr ((c.in_ok-network.network, c.in_ok-network.ensures), inr ((c.in_ok-address.address, c.in_ok-address.ensures), inr (right_or (IsCount 65535) Key.UdpPort (table_view c.args.table.now) 213 c.in_ok-udp_port.udp_port c.in_ok-udp_port.ensures, inl fault)))))
    c.in_err-cost.ensures)

pub returns-in_err-peers-clause-fault : goal.returns-in_err-peers-clause-fault
returns-in_err-peers-clause-fault c =
    let p = err_from_is_err_and c.from_residual-in_err-peers.result c.from_residual-in_err-peers.ensures.1 in
    rw (p.1, p.2)
    (or_memory {B = IsPortFault c.args.number (table_view c.args.table.now) c.in_err-peers.field-0.0} _ (λ fault. inr (c.in_ok-refuse_stray.ensures.known, inr ((c.in_ok-network.network, c.in_ok-network.ensures), inr ((c.in_ok-address.address, c.in_ok-address.ensures), inr (right_or (IsCount 65535) Key.UdpPort (table_view c.args.table.now) 213 c.in_ok-udp_port.udp_port c.in_ok-udp_port.ensures, inr (right_or (IsCount 65535) Key.Cost (table_view c.args.table.now) 1 c.in_ok-cost.cost c.in_ok-cost.ensures, inl fault))))))
    c.in_err-peers.ensures)

pub returns-in_err-routers-clause-fault : goal.returns-in_err-routers-clause-fault
returns-in_err-routers-clause-fault c =
    let p = err_from_is_err_and c.from_residual-in_err-routers.result c.from_residual-in_err-routers.ensures.1 in
    rw (p.1, p.2)
    (or_memory {B = IsPortFault c.args.number (table_view c.args.table.now) c.in_err-routers.field-0.0} _ (λ fault. inr (c.in_ok-refuse_stray.ensures.known, inr ((c.in_ok-network.network, c.in_ok-network.ensures), inr ((c.in_ok-address.address, c.in_ok-address.ensures), inr (right_or (IsCount 65535) Key.UdpPort (table_view c.args.table.now) 213 c.in_ok-udp_port.udp_port c.in_ok-udp_port.ensures, inr (right_or (IsCount 65535) Key.Cost (table_view c.args.table.now) 1 c.in_ok-cost.cost c.in_ok-cost.ensures, inr (routers_fault c.deref.result.now c.in_ok-peers.peers c.deref.ensures.value (table_view c.args.table.now) c.args.number _ c.in_ok-peers.ensures fault)))))))
    c.in_err-routers.ensures)

pub returns-in_err-accept-clause-fault : goal.returns-in_err-accept-clause-fault
returns-in_err-accept-clause-fault c =
    let p = err_from_is_err_and c.from_residual-in_err-accept.result c.from_residual-in_err-accept.ensures.1 in
    rw (p.1, p.2)
    (or_memory {B = IsPortFault c.args.number (table_view c.args.table.now) c.in_err-accept.field-0.0} _ (λ fault. inr (c.in_ok-refuse_stray.ensures.known, inr ((c.in_ok-network.network, c.in_ok-network.ensures), inr ((c.in_ok-address.address, c.in_ok-address.ensures), inr (right_or (IsCount 65535) Key.UdpPort (table_view c.args.table.now) 213 c.in_ok-udp_port.udp_port c.in_ok-udp_port.ensures, inr (right_or (IsCount 65535) Key.Cost (table_view c.args.table.now) 1 c.in_ok-cost.cost c.in_ok-cost.ensures, inr (accept_fault c.deref.result.now c.in_ok-peers.peers c.deref.ensures.value (table_view c.args.table.now) c.args.number _ c.in_ok-peers.ensures c.in_ok-routers.routers c.in_ok-routers.ensures fault)))))))
    c.in_err-accept.ensures)

pub returns-in_err-directed-clause-fault : goal.returns-in_err-directed-clause-fault
returns-in_err-directed-clause-fault c =
    let p = err_from_is_err_and c.from_residual-in_err-directed.result c.from_residual-in_err-directed.ensures.1 in
    rw (p.1, p.2)
    (or_memory {B = IsPortFault c.args.number (table_view c.args.table.now) c.in_err-directed.field-0.0} _ (λ fault. inr (c.in_ok-refuse_stray.ensures.known, inr ((c.in_ok-network.network, c.in_ok-network.ensures), inr ((c.in_ok-address.address, c.in_ok-address.ensures), inr (right_or (IsCount 65535) Key.UdpPort (table_view c.args.table.now) 213 c.in_ok-udp_port.udp_port c.in_ok-udp_port.ensures, inr (right_or (IsCount 65535) Key.Cost (table_view c.args.table.now) 1 c.in_ok-cost.cost c.in_ok-cost.ensures, inr (directed_fault c.deref.result.now c.in_ok-peers.peers c.deref.ensures.value (table_view c.args.table.now) c.args.number _ c.in_ok-peers.ensures c.in_ok-routers.routers c.in_ok-routers.ensures c.in_ok-accept.accept c.in_ok-accept.ensures fault)))))))
    c.in_err-directed.ensures)
