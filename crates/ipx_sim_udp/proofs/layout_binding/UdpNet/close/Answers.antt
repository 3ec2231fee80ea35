use Rattle.std.proofs.Common.{refl, subst}
use Rattle.spx_messages.specs.Changes.{SameBut}
use Rattle.spx_messages.specs.declared.fault.EndFault.TheVariants.{NoSuchEnd}
use Rattle.ipx_sim_udp.specs.UdpCalls.{ClosesEnd}
use Rattle.ipx_sim_udp.proofs.Held.{found, stands, holds_in}
use Rattle.ipx_sim_udp.proofs.layout_binding.UdpNet.close.Goals as goal

pub returns-in-Ok-clause-closes : goal.returns-in-Ok-clause-closes
returns-in-Ok-clause-closes c =
    let here = c.in-Some.ensures.lookup in
    let there = c.in-Some-get_mut.ensures.item in
    let end = c.in-Some.end.now in
    let runner = c.in-Some-get_mut.runner.now in
    let new = c.close.new.self in (
      (
        end,
        holds_in c.deref.result.now c.args.self.now.ends.items c.args.who end c.deref.ensures.value here.3.0 here.1,
        (
          runner,
          new,
          stands c.args.self.now.hosts.items end.host runner there.3.0 there.1,
          subst (λ e. ClosesEnd end.id e new) c.endpoint.ensures.value (found tt NoSuchEnd _ _ c.in-Ok.ensures.unknown c.in-Ok.ensures.ok),
          refl,
        ),
      ),
      refl,
    )

pub returns-in-Err-clause-closes : goal.returns-in-Err-clause-closes
returns-in-Err-clause-closes c =
    let here = c.in-Some.ensures.lookup in
    let there = c.in-Some-get_mut.ensures.item in
    let end = c.in-Some.end.now in
    let runner = c.in-Some-get_mut.runner.now in
    let new = c.close.new.self in (
      (
        end,
        holds_in c.deref.result.now c.args.self.now.ends.items c.args.who end c.deref.ensures.value here.3.0 here.1,
        (
          runner,
          new,
          stands c.args.self.now.hosts.items end.host runner there.3.0 there.1,
          subst (λ e. SameBut e new) c.endpoint.ensures.value c.in-Err.ensures.unchanged,
          refl,
        ),
      ),
      refl,
    )
