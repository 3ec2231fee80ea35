use Rattle.std.proofs.Common.{inl, inr, true}
use Rattle.std.proofs.lemmas.Result.{err_from_is_err_and}
use Rattle.toml.specs.View.{table_view}
use Rattle.ipx_config.specs.declared.key.Key.TheVariants as Key
use Rattle.ipx_config.specs.EthernetTable.{IsEthernetFault}
use Rattle.ipx_config.specs.Values.{IsCount}
use Rattle.ipx_config.specs.EthernetValues.{IsFlag, IsStation}
use Rattle.ipx_config.proofs.Faults.{or_memory, right_or}
use Rattle.ipx_config.proofs.port.ethernet_port.Goals as goal

pub returns-in_err-tunnel-clause-fault : goal.returns-in_err-tunnel-clause-fault
returns-in_err-tunnel-clause-fault c =
    let p = err_from_is_err_and c.from_residual-in_err-tunnel.result c.from_residual-in_err-tunnel.ensures.1 in
    rw (p.1, p.2)
    (or_memory {B = IsEthernetFault c.args.number (table_view c.args.table.now) c.in_err-tunnel.field-0.0} _ (λ fault. inr (c.in_ok-refuse_stray.ensures.known, inr ((c.in_ok-network.network, c.in_ok-network.ensures), inr ((c.in_ok-encapsulation.encapsulation, c.in_ok-encapsulation.ensures), inr (c.in_ok-address.address, c.in_ok-address.ensures, inl fault)))))
    c.in_err-tunnel.ensures.fault)

pub returns-in_err-udp_port-clause-fault : goal.returns-in_err-udp_port-clause-fault
returns-in_err-udp_port-clause-fault c =
    let p = err_from_is_err_and c.from_residual-in_err-udp_port.result c.from_residual-in_err-udp_port.ensures.1 in
    let wrong = rw c.usual_udp_port.ensures at c.in_err-udp_port.ensures.fault in
    rw (p.1, p.2)
    (or_memory {B = IsEthernetFault c.args.number (table_view c.args.table.now) c.in_err-udp_port.field-0.0} _ (λ fault. inr (c.in_ok-refuse_stray.ensures.known, inr ((c.in_ok-network.network, c.in_ok-network.ensures), inr ((c.in_ok-encapsulation.encapsulation, c.in_ok-encapsulation.ensures), inr (c.in_ok-address.address, c.in_ok-address.ensures, inr (c.in_ok-tunnel.tunnel, c.in_ok-tunnel.ensures.tunnel, inl fault))))))
    wrong)

pub returns-in_err-cost-clause-fault : goal.returns-in_err-cost-clause-fault
returns-in_err-cost-clause-fault c =
    let p = err_from_is_err_and c.from_residual-in_err-cost.result c.from_residual-in_err-cost.ensures.1 in
    let port = rw c.usual_udp_port.ensures at c.in_ok-udp_port.ensures.port in
    rw (p.1, p.2)
    (or_memory {B = IsEthernetFault c.args.number (table_view c.args.table.now) c.in_err-cost.field-0.0} _ (λ fault. inr (c.in_ok-refuse_stray.ensures.known, inr ((c.in_ok-network.network, c.in_ok-network.ensures), inr ((c.in_ok-encapsulation.encapsulation, c.in_ok-encapsulation.ensures), inr (c.in_ok-address.address, c.in_ok-address.ensures, inr (c.in_ok-tunnel.tunnel, c.in_ok-tunnel.ensures.tunnel, inr (c.in_ok-udp_port.udp_port, port, inl fault)))))))
    c.in_err-cost.ensures)

pub returns-in_err-remotes-clause-fault : goal.returns-in_err-remotes-clause-fault
returns-in_err-remotes-clause-fault c =
    let p = err_from_is_err_and c.from_residual-in_err-remotes.result c.from_residual-in_err-remotes.ensures.1 in
    let port = rw c.usual_udp_port.ensures at c.in_ok-udp_port.ensures.port in
    let wrong = rw c.socket_addr-own.ensures at c.in_err-remotes.ensures in
    rw (p.1, p.2)
    (or_memory {B = IsEthernetFault c.args.number (table_view c.args.table.now) c.in_err-remotes.field-0.0} _ (λ fault. inr (c.in_ok-refuse_stray.ensures.known, inr ((c.in_ok-network.network, c.in_ok-network.ensures), inr ((c.in_ok-encapsulation.encapsulation, c.in_ok-encapsulation.ensures), inr (c.in_ok-address.address, c.in_ok-address.ensures, inr (c.in_ok-tunnel.tunnel, c.in_ok-tunnel.ensures.tunnel, inr (c.in_ok-udp_port.udp_port, port, inr (right_or (IsCount 65535) Key.Cost (table_view c.args.table.now) 1 c.in_ok-cost.cost c.in_ok-cost.ensures, inl fault))))))))
    wrong)

pub returns-in_err-node-clause-fault : goal.returns-in_err-node-clause-fault
returns-in_err-node-clause-fault c =
    let p = err_from_is_err_and c.from_residual-in_err-node.result c.from_residual-in_err-node.ensures.1 in
    let port = rw c.usual_udp_port.ensures at c.in_ok-udp_port.ensures.port in
    let there = rw c.socket_addr-own.ensures at c.in_ok-remotes.ensures in
    rw (p.1, p.2)
    (or_memory {B = IsEthernetFault c.args.number (table_view c.args.table.now) c.in_err-node.field-0.0} _ (λ fault. inr (c.in_ok-refuse_stray.ensures.known, inr ((c.in_ok-network.network, c.in_ok-network.ensures), inr ((c.in_ok-encapsulation.encapsulation, c.in_ok-encapsulation.ensures), inr (c.in_ok-address.address, c.in_ok-address.ensures, inr (c.in_ok-tunnel.tunnel, c.in_ok-tunnel.ensures.tunnel, inr (c.in_ok-udp_port.udp_port, port, inr (right_or (IsCount 65535) Key.Cost (table_view c.args.table.now) 1 c.in_ok-cost.cost c.in_ok-cost.ensures, inr ((c.in_ok-remotes.remotes, there), inl fault)))))))))
    c.in_err-node.ensures)

pub returns-in_err-switched-clause-fault : goal.returns-in_err-switched-clause-fault
returns-in_err-switched-clause-fault c =
    let p = err_from_is_err_and c.from_residual-in_err-switched.result c.from_residual-in_err-switched.ensures.1 in
    let port = rw c.usual_udp_port.ensures at c.in_ok-udp_port.ensures.port in
    let there = rw c.socket_addr-own.ensures at c.in_ok-remotes.ensures in
    rw (p.1, p.2)
    (or_memory {B = IsEthernetFault c.args.number (table_view c.args.table.now) c.in_err-switched.field-0.0} _ (λ fault. inr (c.in_ok-refuse_stray.ensures.known, inr ((c.in_ok-network.network, c.in_ok-network.ensures), inr ((c.in_ok-encapsulation.encapsulation, c.in_ok-encapsulation.ensures), inr (c.in_ok-address.address, c.in_ok-address.ensures, inr (c.in_ok-tunnel.tunnel, c.in_ok-tunnel.ensures.tunnel, inr (c.in_ok-udp_port.udp_port, port, inr (right_or (IsCount 65535) Key.Cost (table_view c.args.table.now) 1 c.in_ok-cost.cost c.in_ok-cost.ensures, inr ((c.in_ok-remotes.remotes, there), inr (right_or IsStation Key.Node (table_view c.args.table.now) _ c.in_ok-node.node c.in_ok-node.ensures, inl fault))))))))))
    c.in_err-switched.ensures)

pub returns-in_err-directed-clause-fault : goal.returns-in_err-directed-clause-fault
returns-in_err-directed-clause-fault c =
    let p = err_from_is_err_and c.from_residual-in_err-directed.result c.from_residual-in_err-directed.ensures.1 in
    let port = rw c.usual_udp_port.ensures at c.in_ok-udp_port.ensures.port in
    let there = rw c.socket_addr-own.ensures at c.in_ok-remotes.ensures in
    rw (p.1, p.2)
    (or_memory {B = IsEthernetFault c.args.number (table_view c.args.table.now) c.in_err-directed.field-0.0} _ (λ fault. inr (c.in_ok-refuse_stray.ensures.known, inr ((c.in_ok-network.network, c.in_ok-network.ensures), inr ((c.in_ok-encapsulation.encapsulation, c.in_ok-encapsulation.ensures), inr (c.in_ok-address.address, c.in_ok-address.ensures, inr (c.in_ok-tunnel.tunnel, c.in_ok-tunnel.ensures.tunnel, inr (c.in_ok-udp_port.udp_port, port, inr (right_or (IsCount 65535) Key.Cost (table_view c.args.table.now) 1 c.in_ok-cost.cost c.in_ok-cost.ensures, inr ((c.in_ok-remotes.remotes, there), inr (right_or IsStation Key.Node (table_view c.args.table.now) _ c.in_ok-node.node c.in_ok-node.ensures, inr (right_or IsFlag Key.Switch (table_view c.args.table.now) true c.in_ok-switched.switched c.in_ok-switched.ensures, fault)))))))))))
    c.in_err-directed.ensures)
