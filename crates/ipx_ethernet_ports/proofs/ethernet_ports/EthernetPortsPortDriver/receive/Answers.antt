use Rattle.std.proofs.Common.{◌∙◌, [], ℕ, List, Ok, Option, Some, ap, refl, rules, slice_index, subst}
use Rattle.ipx_ethernet_ports.specs.declared.end_sockets.FrameCame.{FrameCame}
use Rattle.ipx_ethernet_ports.specs.EndTraffic.{EndsPass, came_in, frames_in}
use Rattle.ipx_ethernet_ports.specs.OnEthernet.{HandsOn}
use Rattle.ipx_ethernet_ports.proofs.Asked.{asked_frame}
use Rattle.ipx_ethernet_ports.proofs.Hubs.{hearing_leaves_ports, hears_answer}
use Rattle.ipx_ethernet_ports.proofs.ethernet_ports.EthernetPortsPortDriver.receive.Goals as goal

pub returns-clause-receives : goal.returns-clause-receives
returns-clause-receives g c =
    let before = g.D.EndSockets.traffic c.args.self.now.sockets in
    let behind = g.D.EndSockets.traffic c.receive.new.self in
    let first = subst (λ (o : Option FrameCame). EndsPass before behind (frames_in (came_in c.args.port c.receive.new.room o)) []) c.in-Some.is c.in-Ok.ensures.received in
    let same = ap (λ (ends : List ℕ). slice_index ends c.args.port) c.in-Ok.ensures.ends in
    let came = came_in c.args.port c.receive.new.room (Some c.in-Some.came) in
    let onward = subst (λ (n : ℕ). HandsOn g.D.EndSockets.sends n c.args.self.now.moment c.args.self.now.switches.items c.hear_frame.new.self.switches.items came c.receive.new.self c.hear_frame.new.self.sockets) same c.hear_frame.ensures.hands in (
      c.hear_frame.new.room,
      c.hear_frame.result,
      came_in c.args.port c.receive.new.room (Some c.in-Some.came),
      refl,
      asked_frame g.D.EndSockets.asks g.D.EndSockets.sends _ c.args.self.now.moment c.args.self.now.switches.items c.hear_frame.new.self.switches.items c.args.port c.args.self.now.sockets c.receive.new.self c.hear_frame.new.self.sockets c.receive.new.room c.receive.result c.receive.ensures.asked (search rules) c.in-Some.came (c.in-Ok.is ∙ ap Ok c.in-Some.is) onward,
      hears_answer _ _ _ _ _ _ _ _ _ _ _ _ _ _ (ap (λ (ends : List ℕ). slice_index ends c.args.port) c.in-Ok.ensures.ends) c.in-Ok.ensures.failures first c.hear_frame.ensures.heard,
      c.hear_frame.ensures.rest,
      c.hear_frame.ensures.ends ∙ c.in-Ok.ensures.ends,
    )

pub returns-clause-received : goal.returns-clause-received
returns-clause-received g c =
    let before = g.D.EndSockets.traffic c.args.self.now.sockets in
    let behind = g.D.EndSockets.traffic c.receive.new.self in
    let first = subst (λ (o : Option FrameCame). EndsPass before behind (frames_in (came_in c.args.port c.receive.new.room o)) []) c.in-Some.is c.in-Ok.ensures.received in (
      came_in c.args.port c.receive.new.room (Some c.in-Some.came),
      refl,
      hears_answer _ _ _ _ _ _ _ _ _ _ _ _ _ _ (ap (λ (ends : List ℕ). slice_index ends c.args.port) c.in-Ok.ensures.ends) c.in-Ok.ensures.failures first c.hear_frame.ensures.heard,
    )

pub returns-clause-transmissions : goal.returns-clause-transmissions
returns-clause-transmissions g c = hearing_leaves_ports _ _ _ _ _ _ _ _ _ c.hear_frame.ensures.heard
