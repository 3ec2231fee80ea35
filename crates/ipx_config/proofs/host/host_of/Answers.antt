use Rattle.std.proofs.Common.{inl, inr}
use Rattle.std.proofs.lemmas.Result.{err_from_is_err_and}
use Rattle.toml.specs.View.{table_view}
use Rattle.ipx_config.specs.declared.key.Key.TheVariants as Key
use Rattle.ipx_config.specs.Values.{IsCount}
use Rattle.ipx_config.proofs.Faults.{or_memory, right_or}
use Rattle.ipx_config.proofs.host.host_of.Goals as goal

pub returns-in_err-udp_port-clause-fault : goal.returns-in_err-udp_port-clause-fault
returns-in_err-udp_port-clause-fault c =
    let p = err_from_is_err_and c.from_residual-in_err-udp_port.result c.from_residual-in_err-udp_port.ensures.1 in
    rw (p.1, p.2)
    (or_memory _ (λ fault. inr (c.in_ok-refuse_unknown.ensures.known, inr ((c.in_ok-network.network, c.in_ok-network.ensures), inr ((c.in_ok-address.address, c.in_ok-address.ensures), inr ((c.in_ok-router.router, c.in_ok-router.ensures), inl fault)))))
    c.in_err-udp_port.ensures)

pub returns-in_err-socket-clause-fault : goal.returns-in_err-socket-clause-fault
returns-in_err-socket-clause-fault c =
    let p = err_from_is_err_and c.from_residual-in_err-socket.result c.from_residual-in_err-socket.ensures.1 in
    rw (p.1, p.2)
    (or_memory _ (λ fault. inr (c.in_ok-refuse_unknown.ensures.known, inr ((c.in_ok-network.network, c.in_ok-network.ensures), inr ((c.in_ok-address.address, c.in_ok-address.ensures), inr ((c.in_ok-router.router, c.in_ok-router.ensures), inr (right_or (IsCount 65535) Key.UdpPort (table_view c.args.table.now) 213 c.in_ok-udp_port.udp_port c.in_ok-udp_port.ensures, inl fault))))))
    c.in_err-socket.ensures)

pub returns-in_err-buffers-clause-fault : goal.returns-in_err-buffers-clause-fault
returns-in_err-buffers-clause-fault c =
    let p = err_from_is_err_and c.from_residual-in_err-buffers.result c.from_residual-in_err-buffers.ensures.1 in
    rw (p.1, p.2)
    (or_memory _ (λ fault. inr (c.in_ok-refuse_unknown.ensures.known, inr ((c.in_ok-network.network, c.in_ok-network.ensures), inr ((c.in_ok-address.address, c.in_ok-address.ensures), inr ((c.in_ok-router.router, c.in_ok-router.ensures), inr (right_or (IsCount 65535) Key.UdpPort (table_view c.args.table.now) 213 c.in_ok-udp_port.udp_port c.in_ok-udp_port.ensures, inr ((c.in_ok-socket.socket, c.in_ok-socket.ensures), inl fault)))))))
    c.in_err-buffers.ensures)

pub returns-in_err-circle-clause-fault : goal.returns-in_err-circle-clause-fault
returns-in_err-circle-clause-fault c =
    let p = err_from_is_err_and c.from_residual-in_err-circle.result c.from_residual-in_err-circle.ensures.1 in
    rw (p.1, p.2)
    (or_memory _ (λ fault. inr (c.in_ok-refuse_unknown.ensures.known, inr ((c.in_ok-network.network, c.in_ok-network.ensures), inr ((c.in_ok-address.address, c.in_ok-address.ensures), inr ((c.in_ok-router.router, c.in_ok-router.ensures), inr (right_or (IsCount 65535) Key.UdpPort (table_view c.args.table.now) 213 c.in_ok-udp_port.udp_port c.in_ok-udp_port.ensures, inr ((c.in_ok-socket.socket, c.in_ok-socket.ensures), inr (right_or (IsCount 8192) Key.Buffers (table_view c.args.table.now) 1024 c.in_ok-buffers.buffers c.in_ok-buffers.ensures, fault))))))))
    c.in_err-circle.ensures.fault)
