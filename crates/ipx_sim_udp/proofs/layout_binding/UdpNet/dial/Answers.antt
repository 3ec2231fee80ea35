use Rattle.std.proofs.Common.{◌∙◌, ◌++◌, ◌∷◌, [], ap, refl, subst}
use Rattle.spx_messages.specs.Changes.{SameBut}
use Rattle.ipx_sim_udp.specs.UdpCalls.{Dials}
use Rattle.ipx_sim_udp.proofs.Held.{stands}
use Rattle.ipx_sim_udp.proofs.layout_binding.UdpNet.dial.Goals as goal

pub returns-in-Err-clause-dials : goal.returns-in-Err-clause-dials
returns-in-Err-clause-dials c =
    let there = c.in-Some.ensures.item in
    let runner = c.in-Some.runner.now in
    let new = c.dial.new.self in (
      (
        runner,
        new,
        stands c.args.self.now.hosts.items c.args.host runner there.3.0 there.1,
        subst (λ e. SameBut e new) c.endpoint-endpoint.ensures.value c.in-Err.ensures.unchanged,
        refl,
      ),
      refl,
    )

pub returns-in-Ok-push-clause-dials : goal.returns-in-Ok-push-clause-dials
returns-in-Ok-push-clause-dials c =
    let there = c.in-Some.ensures.item in
    let runner = c.in-Some.runner.now in
    let new = c.dial.new.self in (
      c.in-Ok.id,
      (
        runner,
        new,
        stands c.args.self.now.hosts.items c.args.host runner there.3.0 there.1,
        subst (λ e. Dials c.args.socket c.args.to c.args.buffers c.args.self.now.moment c.in-Ok.id e new) c.endpoint-endpoint.ensures.value (c.in-Ok.ensures.id, c.in-Ok.ensures.adds),
        refl,
      ),
      c.in-Ok-push.ensures.items ∙ ap (λ e. c.args.self.now.ends.items ++ e ∷ []) c.new.ensures,
    )

pub returns-in-Err-push-clause-dials : goal.returns-in-Err-push-clause-dials
returns-in-Err-push-clause-dials c =
    let there = c.in-Some.ensures.item in
    let runner = c.in-Some.runner.now in
    let new = c.dial.new.self in (
      c.in-Ok.id,
      (
        runner,
        new,
        stands c.args.self.now.hosts.items c.args.host runner there.3.0 there.1,
        subst (λ e. Dials c.args.socket c.args.to c.args.buffers c.args.self.now.moment c.in-Ok.id e new) c.endpoint-endpoint.ensures.value (c.in-Ok.ensures.id, c.in-Ok.ensures.adds),
        refl,
      ),
      c.in-Err-push.ensures.items,
    )
