use Rattle.std.proofs.Common.{◌∙◌, List, refl, subst}
use Rattle.std.specs.Prelude.{◌↔◌, IsTrue}
use Rattle.ipx_wire.specs.declared.address.Network.{Network}
use Rattle.ipx_host.specs.declared.sessions.Session.{Session}
use Rattle.ipx_host.specs.HostOutput.{left_of}
use Rattle.ipx_host.specs.Sessions.{HasNoPlaceFor, place_of_own, without}
use Rattle.ipx_host.proofs.Holding.{are_without, keeps_admitted, keeps_own}
use Rattle.ipx_host.proofs.Sparing.{spares_admitted}
use Rattle.ipx_host.proofs.serving.Sessions.admit.Goals as goal

pub invariant_of-self : goal.invariant_of-self
invariant_of-self g c =
    let old = c.args.self.now in
    let made = c.make_space_of_own-evicted in
    let own = keeps_own old.once c.args.moment c.args.accepted.from old.held.items made.new.sessions.items (left_of old.output) c.args.endpoint.now made.new.endpoint made.ensures.evicts old.one in
    record {
      room = c.hold-is_turned_away.ensures.room;
      one = keeps_admitted old.once made.new.sessions.items c.hold-is_turned_away.new.sessions.items (left_of old.output) _ made.new.endpoint c.hold-is_turned_away.new.endpoint refl c.hold-is_turned_away.ensures.admits own;
    }

pub returns-clause-admits : goal.returns-clause-admits
returns-clause-admits g c =
    let made = c.make_space_of_own-evicted in
    rw c.count_evicted.ensures.held (made.new.endpoint, made.new.sessions.items, made.ensures.evicts, c.hold-is_turned_away.ensures.admits)

pub returns-clause-counts : goal.returns-clause-counts
returns-clause-counts g c =
    let old = c.args.self.now in
    let made = c.make_space_of_own-evicted in
    let found = place_of_own old.once c.args.endpoint.now.network c.args.endpoint.now c.args.moment c.args.accepted.from old.held.items in
    let by_all = subst (λ (l : List Session). IsTrue c.hold-is_turned_away.result ↔ HasNoPlaceFor old.once made.new.endpoint.network c.args.accepted.from l)
    (are_without found c.args.endpoint.now made.new.endpoint old.held.items made.new.sessions.items made.ensures.evicts) c.hold-is_turned_away.ensures.turned_away in (
      c.hold-is_turned_away.result,
      subst (λ (n : Network). IsTrue c.hold-is_turned_away.result ↔ HasNoPlaceFor old.once n c.args.accepted.from (without found old.held.items)) made.ensures.network by_all,
      c.count_evicted.ensures.turned_away ∙ c.count_if-self.ensures,
    )

pub returns-clause-spares : goal.returns-clause-spares
returns-clause-spares g c =
    let old = c.args.self.now in
    let made = c.make_space_of_own-evicted in
    rw c.count_evicted.ensures.held
    (spares_admitted old.once c.args.moment c.args.accepted c.args.endpoint.now c.hold-is_turned_away.new.endpoint old.held.items c.hold-is_turned_away.new.sessions.items
    (made.new.endpoint, made.new.sessions.items, made.ensures.evicts, c.hold-is_turned_away.ensures.admits))
