use Rattle.std.proofs.Common.{◌<◌, ◌+◌, ◌^◌, ap, arith, inl, inr, length}
use Rattle.std.proofs.lemmas.Bool.{cases_eq}
use Rattle.ipx_carrier.specs.Stepped.{StepsOn}
use Rattle.ipx_sim_udp.specs.UdpPorts.{UdpPorts}
use Rattle.ipx_sim_udp.proofs.PeersStay.{broken_turn_peers, whole_turn_peers}
use Rattle.ipx_sim_udp.proofs.runner.Runner.turn.Goals as goal

pub returns-in-Ok-clause-peers : goal.returns-in-Ok-clause-peers
returns-in-Ok-clause-peers g c =
    let old = c.args.self.now in
    let ran = c.run_once_over_ports.new in
    whole_turn_peers g.C.Core.hears g.C.Core.hear_out_of_memory g.C.Core.gives g.C.Core.next_out_of_memory StepsOn (g.C.Core.port_count old.core) old.ports ran.driver old.clock ran.clock old.core ran.core c.in-Ok.report c.in-Ok.ensures.marks

pub returns-in-Err-clause-peers : goal.returns-in-Err-clause-peers
returns-in-Err-clause-peers g c =
    let old = c.args.self.now in
    let ran = c.run_once_over_ports.new in
    let few : old.ports.device.failures + 1 < 2 ^ 64 = omega (arith, c.failures.ensures, c.if-failures-gt0.false) in
    elim (cases_eq (length old.ports.device.sockets.items) (g.C.Core.port_count old.core)) [
      | inl same ↦ broken_turn_peers g.C.Core.hears g.C.Core.hear_out_of_memory g.C.Core.gives g.C.Core.next_out_of_memory StepsOn (g.C.Core.port_count old.core) old.ports ran.driver old.clock ran.clock old.core ran.core c.in-Err.fault (c.in-Err.ensures.marks_fault (same, few))
      | inr other ↦ ap (λ (p : UdpPorts). p.peers) (c.in-Err.ensures.refused (λ can. other can.0)).2
    ]
