use Rattle.std.proofs.Common.{ap, refl, set, subst}
use Rattle.spx_messages.specs.Message.{message_view}
use Rattle.spx_messages.specs.Changes.{SameBut}
use Rattle.spx_messages.specs.declared.fault.EndFault.TheVariants.{NoSuchEnd}
use Rattle.ipx_sim_udp.specs.UdpCalls.{Sends}
use Rattle.ipx_sim_udp.proofs.Held.{found, same_again, stands}
use Rattle.ipx_sim_udp.proofs.layout_binding.UdpNet.send.Goals as goal

pub returns-in_default-get_mut-clause-sends : goal.returns-in_default-get_mut-clause-sends
returns-in_default-get_mut-clause-sends c =
    (refl, same_again c.args.self.now.ends.items c.args.who c.in-Some.end.now c.in-Some.ensures.item.1)

pub returns-in-Ok-clause-sends : goal.returns-in-Ok-clause-sends
returns-in-Ok-clause-sends c =
    let here = c.in-Some.ensures.item in
    let there = c.in-Some-get_mut.ensures.item in
    let end = c.in-Some.end.now in
    let runner = c.in-Some-get_mut.runner.now in
    let new = c.send.new.self in (
      end,
      stands c.args.self.now.ends.items c.args.who end here.3.0 here.1,
      (
        runner,
        new,
        stands c.args.self.now.hosts.items end.host runner there.3.0 there.1,
        subst (λ e. Sends end.id (message_view c.args.message.now) e new) c.endpoint.ensures.value (found tt NoSuchEnd _ _ c.in-Ok.ensures.unknown c.in-Ok.ensures.ok),
        refl,
      ),
      ap (λ n. set c.args.self.now.ends.items c.args.who (record end { given = n })) c.saturating_add-end.ensures,
    )

pub returns-in-Err-clause-sends : goal.returns-in-Err-clause-sends
returns-in-Err-clause-sends c =
    let here = c.in-Some.ensures.item in
    let there = c.in-Some-get_mut.ensures.item in
    let end = c.in-Some.end.now in
    let runner = c.in-Some-get_mut.runner.now in
    let new = c.send.new.self in (
      (
        end,
        stands c.args.self.now.ends.items c.args.who end here.3.0 here.1,
        (
          runner,
          new,
          stands c.args.self.now.hosts.items end.host runner there.3.0 there.1,
          subst (λ e. SameBut e new) c.endpoint.ensures.value c.in-Err.ensures.unchanged,
          refl,
        ),
      ),
      same_again c.args.self.now.ends.items c.args.who end here.1,
    )
