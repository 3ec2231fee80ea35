use Rattle.std.proofs.Common.{◌∙◌, refl, subst, sym, take}
use Rattle.ipx_wire.specs.Ipx.{packet_of}
use Rattle.ipx_router.specs.declared.forwarding.Forwarding.{Forwarding}
use Rattle.ipx_router.specs.Forward.{IsForwardingAnswer}
use Rattle.ipx_router.specs.OutcomeView.{Dropped, Forward}
use Rattle.ipx_router.proofs.forwarding.forward_front.Goals as goal

pub returns-in-Dropped-clause-forwards : goal.returns-in-Dropped-clause-forwards
returns-in-Dropped-clause-forwards c = λ body tail is size. (
  c.route_to-route.result,
  c.route_to-route.ensures.route,
  subst (λ (f : Forwarding). IsForwardingAnswer c.args.at.port (packet_of c.args.header body) f (Dropped c.in-Dropped.reason)) (sym c.in-Dropped.is ∙ c.forwarding_by_route.ensures.fate) refl,
)

pub returns-in-Forward-clause-forwards : goal.returns-in-Forward-clause-forwards
returns-in-Forward-clause-forwards c = λ body tail is size.
    let sent = take c.args.count c.change_front.new.bytes in (
      c.route_to-route.result,
      c.route_to-route.ensures.route,
      subst (λ (f : Forwarding). IsForwardingAnswer c.args.at.port (packet_of c.args.header body) f (Forward c.in-Forward.port c.in-Forward.next sent)) (sym c.in-Forward.is ∙ c.forwarding_by_route.ensures.fate)
          (sent, refl, c.change_front.ensures.forwarded body tail is size),
    )

pub returns-in-Forward-clause-one_hop_on : goal.returns-in-Forward-clause-one_hop_on
returns-in-Forward-clause-one_hop_on c = λ body tail is size. (rw c.in-Forward.is at c.forwarding_by_route.ensures.hops, c.change_front.ensures.forwarded body tail is size)
