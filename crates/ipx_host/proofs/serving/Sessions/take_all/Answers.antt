use Rattle.std.proofs.Common.{◌≡◌, List, arith, length, subst, sym}
use Rattle.std.proofs.lemmas.List.{with_items_is}
use Rattle.std.specs.Prelude.{OnErr, OnOk}
use Rattle.ipx_host.specs.Sessions.{KeepsOne}
use Rattle.ipx_host.specs.HostOutput.{left_of}
use Rattle.ipx_host.specs.Passing.{PassesSome, PassesUntilFull}
use Rattle.ipx_host.specs.declared.sessions.Session.{Session}
use Rattle.ipx_host.proofs.Holding.{keeps_taken}
use Rattle.ipx_host.proofs.serving.Sessions.take_all.Goals as goal

pub invariant_of-self : goal.invariant_of-self
invariant_of-self g c =
    let held = g.W.Write.contents in
    let old = c.args.self.now in
    let new = c.take_each.new in
    let before = subst (λ (l : List Session). KeepsOne old.once l (left_of old.output)) (sym c.deref_mut.ensures.value) old.one in
    let after = keeps_taken old.once c.args.endpoint.now new.endpoint (left_of old.output) (left_of new.output) (held c.args.writer.now) (held new.writer) c.deref_mut.result.now new.sessions c.take_each.result c.take_each.ensures.all c.take_each.ensures.some before in
    let len : length new.sessions ≡ old.held.len = omega (arith, c.take_each.auto.sessions, c.deref_mut.ensures.len) in
    record {
      room = old.room;
      one = subst (λ (l : List Session). KeepsOne old.once l (left_of new.output)) (sym (with_items_is old.held new.sessions len)) after;
    }

pub returns-clause-all : goal.returns-clause-all
returns-clause-all g c =
    let held = g.W.Write.contents in
    let old = c.args.self.now in
    let new = c.take_each.new in
    let len : length new.sessions ≡ old.held.len = omega (arith, c.take_each.auto.sessions, c.deref_mut.ensures.len) in
    subst (λ (l : List Session). OnOk c.take_each.result (PassesUntilFull c.args.endpoint.now new.endpoint (left_of old.output) (left_of new.output) (held c.args.writer.now) (held new.writer) old.held.items l)) (sym (with_items_is old.held new.sessions len))
    (subst (λ (l : List Session). OnOk c.take_each.result (PassesUntilFull c.args.endpoint.now new.endpoint (left_of old.output) (left_of new.output) (held c.args.writer.now) (held new.writer) l new.sessions)) c.deref_mut.ensures.value c.take_each.ensures.all)

pub returns-clause-some : goal.returns-clause-some
returns-clause-some g c =
    let held = g.W.Write.contents in
    let old = c.args.self.now in
    let new = c.take_each.new in
    let len : length new.sessions ≡ old.held.len = omega (arith, c.take_each.auto.sessions, c.deref_mut.ensures.len) in
    subst (λ (l : List Session). OnErr c.take_each.result (PassesSome c.args.endpoint.now new.endpoint (left_of old.output) (left_of new.output) (held c.args.writer.now) (held new.writer) old.held.items l)) (sym (with_items_is old.held new.sessions len))
    (subst (λ (l : List Session). OnErr c.take_each.result (PassesSome c.args.endpoint.now new.endpoint (left_of old.output) (left_of new.output) (held c.args.writer.now) (held new.writer) l new.sessions)) c.deref_mut.ensures.value c.take_each.ensures.some)
