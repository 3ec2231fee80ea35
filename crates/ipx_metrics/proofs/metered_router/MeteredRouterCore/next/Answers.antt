use Rattle.std.proofs.Common.{◌≡◌, ◌∙◌, ◌≤◌, ◌<◌, ap, arith, length, refl, subst, sym}
use Rattle.std.specs.Vec.{with_items}
use Rattle.std.proofs.lemmas.List.{with_items_is}
use Rattle.std.proofs.lemmas.Result.{err_from_is_err_and}
use Rattle.ipx_carrier.specs.GivenPackets.{given_in}
use Rattle.ipx_metrics.specs.MeteredRouter.{CountedView, CountsAsItGives, CountsWithheld}
use Rattle.ipx_metrics.specs.PortCounts.{changed_at, outcomes_over, with_sent_there}
use Rattle.ipx_metrics.proofs.Counted.{counted_of, given_counted, given_same, none_counted, some_is}
use Rattle.ipx_metrics.proofs.Sums.{sums_sent}
use Rattle.ipx_metrics.proofs.metered_router.MeteredRouterCore.next.Goals as goal

pub returns-in_err-given-clause-refused : goal.returns-in_err-given-clause-refused
returns-in_err-given-clause-refused c =
    let p = err_from_is_err_and c.from_residual.result c.from_residual.ensures.1 in
    let i = c.self.inside in
    let after = counted_of c.next.new.self i.ports.items i.last in
    let withheld : CountsWithheld (counted_of i.core i.ports.items i.last) c.args.now after = (c.in_err-given.ensures.refused, refl, refl) in
    rw p.1 (subst (λ (v : CountedView). CountsWithheld v c.args.now after) c.self.view_is withheld)

pub invariant_of-self-in-Some : goal.invariant_of-self-in-Some
invariant_of-self-in-Some c =
    let i = c.self.inside in
    let k' = c.next.new.self in
    let ports' = c.send_at.new.ports in
    let len : length ports' ≡ i.ports.len = omega (arith, c.send_at.auto.ports, c.deref_mut.ensures.len) in
    let is : (with_items i.ports ports').items ≡ ports' = with_items_is i.ports ports' len in
    let at : c.in-Some.port < length i.core.router.ports = some_is c.in_ok-given.given _ (λ g. g.0 < length i.core.router.ports) c.in-Some.is c.in_ok-given.ensures.there in
    let there : c.in-Some.port < length i.ports.items = omega (arith, at, c.self.invariant.0) in
    let sums = sums_sent i.ports.items c.in-Some.port c.in-Some.count there in
    let counts = is ∙ c.send_at.ensures ∙ ap (λ l. changed_at l c.in-Some.port (with_sent_there c.in-Some.count)) c.deref_mut.ensures.value in (
      omega (arith, ap length is, c.send_at.auto.ports, ap length c.deref_mut.ensures.value, c.self.invariant.0, c.next.ensures.ports),
      given_same i.core k' c.args.now (given_in c.next.new.room c.in_ok-given.given) c.in_ok-given.ensures.given ∙ c.self.invariant.1 ∙ sym (ap outcomes_over counts ∙ sums),
    )

pub returns-in-Some-clause-given : goal.returns-in-Some-clause-given
returns-in-Some-clause-given c =
    let i = c.self.inside in
    let k' = c.next.new.self in
    let ports' = c.send_at.new.ports in
    let len : length ports' ≡ i.ports.len = omega (arith, c.send_at.auto.ports, c.deref_mut.ensures.len) in
    let within : c.in-Some.count ≤ length c.args.room.now = some_is c.in_ok-given.given _ (λ g. g.2 ≤ length c.args.room.now) c.in-Some.is c.in_ok-given.ensures.within in
    let few : c.in-Some.count ≤ length c.next.new.room = omega (arith, within, c.next.auto.room) in
    let new = counted_of k' (with_items i.ports ports').items i.last in
    subst (λ (v : CountedView). CountsAsItGives v c.args.now (given_in c.next.new.room c.in_ok-given.given) new) c.self.view_is
    (given_counted i.core k' i.ports.items c.deref_mut.result.now ports' (with_items i.ports ports').items i.last c.args.now c.next.new.room c.in_ok-given.given c.in-Some.port c.in-Some.count c.in-Some._node
    c.in-Some.is few c.in_ok-given.ensures.given c.deref_mut.ensures.value c.send_at.ensures (with_items_is i.ports ports' len))

pub returns-in_default-clause-given : goal.returns-in_default-clause-given
returns-in_default-clause-given c =
    let i = c.self.inside in
    let k' = c.next.new.self in
    let new = counted_of k' i.ports.items i.last in
    subst (λ (v : CountedView). CountsAsItGives v c.args.now (given_in c.next.new.room c.in_ok-given.given) new) c.self.view_is
    (none_counted i.core k' i.ports.items i.last c.args.now c.next.new.room c.in_ok-given.given c.in_default.is c.in_ok-given.ensures.given)
