use Rattle.std.proofs.Common.{◌∙◌, ap, arith, length}
use Rattle.ipx_carrier.specs.Driving.{CanBeginBy}
use Rattle.ipx_carrier.specs.ReadySet.{is_port_marked}
use Rattle.ipx_host.specs.Sessions.{raised_if}
use Rattle.ipx_sockets.specs.PortTurns.{HostPort}
use Rattle.ipx_host.specs.Turning.{around}
use Rattle.ipx_host.proofs.Turning.{fails_to_receive_at, fails_to_send_at, peers_stay, took}
use Rattle.ipx_host.proofs.running_host.RunningHost.turn.Goals as goal

pub returns-clause-core : goal.returns-clause-core
returns-clause-core g c =
    let before = c.args.self.now in
    let socket = c.mark_all.new.self in
    let ran = c.run_once_over_ports-ran in
    let can : CanBeginBy 1 (length socket.ports.device.device.sockets.items) 0 = (socket.one_socket, omega arith) in
    took (λ (p : HostPort). is_port_marked p.device.device.marks) fails_to_receive_at fails_to_send_at (around before.clock before.host_socket.ports) (around ran.new.clock ran.new.driver) before.core ran.new.core socket.ports ran.result c.activity_of.result before.refused c.count_if-self.result
    (ap (λ it. it.ports) c.mark_all.ensures) (ran.ensures.failures can) ran.ensures.marks (ran.ensures.marks_fault can)
    c.activity_of.ensures.whole c.activity_of.ensures.ended (c.count_if-self.ensures ∙ ap (λ b. raised_if b before.refused) c.is_err.ensures.value)

pub returns-clause-peers : goal.returns-clause-peers
returns-clause-peers g c =
    let before = c.args.self.now in
    let socket = c.mark_all.new.self in
    let ran = c.run_once_over_ports-ran in
    let can : CanBeginBy 1 (length socket.ports.device.device.sockets.items) 0 = (socket.one_socket, omega arith) in
    peers_stay (λ (p : HostPort). is_port_marked p.device.device.marks) fails_to_receive_at fails_to_send_at (around before.clock before.host_socket.ports) (around ran.new.clock ran.new.driver) before.core ran.new.core socket.ports ran.result
    (ran.ensures.failures can) ran.ensures.marks (ran.ensures.marks_fault can) ∙ ap (λ it. it.ports.peers) c.mark_all.ensures
