use Rattle.std.proofs.Common.{refl, subst, Err}
use Rattle.ipx_sim_udp.specs.UdpCalls.{SendsByte}
use Rattle.ipx_sim_udp.proofs.Filling.{fills_more, rest_on, rest_same}
use Rattle.ipx_sim_udp.proofs.layout_binding.UdpNet.fill.Goals as goal

pub loop-k-init : goal.loop-k-init
loop-k-init c = (refl, rest_same c.args.self.now)

pub loop-k-preserved : goal.loop-k-preserved
loop-k-preserved c =
    let i = c.loop-k.invariant in (
      fills_more c.args.who c.loop-k.k c.byte_of.result c.in-Ok.field-0 c.args.self.now c.loop-k.self c.send_byte.new.self c.byte_of.ensures i.0 c.in-Ok.ensures.sends,
      rest_on c.args.self.now c.loop-k.self c.send_byte.new.self i.1 c.send_byte.ensures.rest,
    )

pub returns-in-Err-clause-fills : goal.returns-in-Err-clause-fills
returns-in-Err-clause-fills c =
    (c.loop-k.k, c.loop-k.self, c.loop-k-test.true, c.loop-k.invariant.0, subst (λ b. SendsByte c.args.who b c.loop-k.self c.send_byte.new.self (Err c.in-Err.stop)) c.byte_of.ensures c.in-Err.ensures.sends)

pub returns-in-Err-clause-rest : goal.returns-in-Err-clause-rest
returns-in-Err-clause-rest c = rest_on c.args.self.now c.loop-k.self c.send_byte.new.self c.loop-k.invariant.1 c.send_byte.ensures.rest
