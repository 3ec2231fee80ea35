use Rattle.std.proofs.Common.{ap, inl, subst}
use Rattle.spx_messages.specs.Message.{MessageView}
use Rattle.ipx_sim_udp.specs.UdpCalls.{SendsAt}
use Rattle.ipx_sim_udp.proofs.layout_binding.UdpNet.send_byte.Goals as goal

pub returns-clause-sends : goal.returns-clause-sends
returns-clause-sends c =
    inl (subst (λ (m : MessageView). SendsAt c.args.who m c.args.self.now c.send.new.self c.send.result) (ap (λ bytes. record { stream = 0; body = bytes }) c.in-Ok.ensures.items) c.send.ensures.sends)
