use Rattle.std.proofs.Common.{[], ◌∷◌, ◌++◌, ◌∙◌, Err, ap, refl, subst, zero}
use Rattle.std.proofs.lemmas.Result.{err_from_is_err_and}
use Rattle.std.specs.Io.KnownBytes.{Appends}
use Rattle.ipx_wire.specs.declared.address.Address.{Address}
use Rattle.ipx_query_cmd.specs.PingLines.{news_text}
use Rattle.ipx_sockets.proofs.Waits.{err_is, not_err, not_failed, run_ends, waits_on}
use Rattle.ipx_query_cmd.proofs.Pauses.{as_wait, clock_waits}
use Rattle.ipx_query_cmd.proofs.PingSteps.{none_so_far, one_more_turn}
use Rattle.ipx_query_cmd.proofs.pinging_host.PingingHost.ping.Goals as goal

pub loop-init : goal.loop-init
loop-init g c = record {
  to = refl;
  waits = (zero, refl);
  pings = ([], none_so_far c.args.self.now.to c.args.self.now.clock.last c.args.self.now.own_socket.ports c.args.self.now.core c.args.self.now.times.items (g.W.Write.contents c.args.writer.now));
}

pub returns-in-Some-clause-pings : goal.returns-in-Some-clause-pings
returns-in-Some-clause-pings g c =
    let was = c.loop.invariant.pings in
    let more = c.in_ok-now.ensures.pings in
    let w = g.W.Write.contents c.args.writer.now in
    let v = g.W.Write.contents c.loop.writer in
    let u = g.W.Write.contents c.step.new.writer in
    let told = subst (λ (to : Address). Appends v u (news_text to more.0.news)) c.loop.invariant.to more.3 in
    let all = one_more_turn c.args.self.now.to was.0 more.0 c.args.self.now.clock.last c.loop.self.clock.last c.step.new.self.clock.last
    c.args.self.now.own_socket.ports c.loop.self.own_socket.ports c.step.new.self.own_socket.ports c.args.self.now.core c.loop.self.core c.step.new.self.core c.args.self.now.times.items c.loop.self.times.items c.step.new.self.times.items
    w v u was.1 more.1 more.2 told in
    (was.0 ++ more.0 ∷ [], all.pings, all.kept, all.told)

pub loop-preserved : goal.loop-preserved
loop-preserved g c =
    let was = c.loop.invariant.pings in
    let more = c.in_ok-now.ensures.pings in
    let w = g.W.Write.contents c.args.writer.now in
    let v = g.W.Write.contents c.loop.writer in
    let u = g.W.Write.contents c.step.new.writer in
    let told = subst (λ (to : Address). Appends v u (news_text to more.0.news)) c.loop.invariant.to more.3 in
    let all = one_more_turn c.args.self.now.to was.0 more.0 c.args.self.now.clock.last c.loop.self.clock.last c.step.new.self.clock.last
    c.args.self.now.own_socket.ports c.loop.self.own_socket.ports c.step.new.self.own_socket.ports c.args.self.now.core c.loop.self.core c.step.new.self.core c.args.self.now.times.items c.loop.self.times.items c.step.new.self.times.items
    w v u was.1 more.1 more.2 told in
    let i = c.loop.invariant.waits in
    let now = c.loop.self.poller in
    let new = c.step.new.self.poller in
    record {
      to = c.in_ok-now.ensures.to ∙ c.loop.invariant.to;
      waits = waits_on i.0 c.args.self.now.poller now new i.1 (as_wait now new c.step.ensures.waits) (λ fails. not_err _ _ (c.in_ok-now.ensures.unwaited.1 fails));
      pings = (was.0 ++ more.0 ∷ [], all);
    }

pub returns-in-Some-clause-waits : goal.returns-in-Some-clause-waits
returns-in-Some-clause-waits g c = λ other.
    let i = c.loop.invariant.waits in
    let now = c.loop.self.poller in
    let new = c.step.new.self.poller in
    waits_on i.0 c.args.self.now.poller now new i.1 (as_wait now new c.step.ensures.waits) (λ fails. not_err _ _ (c.in_ok-now.ensures.unwaited.1 fails))

pub returns-in-Some-clause-unwaited : goal.returns-in-Some-clause-unwaited
returns-in-Some-clause-unwaited g c =
    let i = c.loop.invariant.waits in
    let now = c.loop.self.poller in
    let new = c.step.new.self.poller in
    let well = waits_on i.0 c.args.self.now.poller now new i.1 (as_wait now new c.step.ensures.waits) (λ fails. not_err _ _ (c.in_ok-now.ensures.unwaited.1 fails)) in
    not_failed _ _ well.0 c.args.self.now.poller new (not_err _ _) well.1

pub returns-in_err-now-clause-waits : goal.returns-in_err-now-clause-waits
returns-in_err-now-clause-waits g c =
    let i = c.loop.invariant.waits in
    let now = c.loop.self.poller in
    let new = c.step.new.self.poller in
    let p = err_from_is_err_and c.from_residual.result c.from_residual.ensures.1 in
    rw (p.1, p.2) (λ other. waits_on i.0 c.args.self.now.poller now new i.1 (as_wait now new c.step.ensures.waits) (λ fails. other (ap Err (err_is _ _ (Err _) refl (c.in_err-now.ensures.unwaited.1 fails)))))

pub returns-in_err-now-clause-unwaited : goal.returns-in_err-now-clause-unwaited
returns-in_err-now-clause-unwaited g c =
    let i = c.loop.invariant.waits in
    let now = c.loop.self.poller in
    let new = c.step.new.self.poller in
    let p = err_from_is_err_and c.from_residual.result c.from_residual.ensures.1 in
    rw (p.1, p.2) (run_ends _ _ i.0 c.args.self.now.poller now new i.1 (as_wait now new c.step.ensures.waits) (λ is. c.in_err-now.ensures.unwaited.0 (ap Err (err_is _ _ (Err _) refl is)))
    (λ fails. ap Err (err_is _ _ (Err _) refl (c.in_err-now.ensures.unwaited.1 fails))))

pub returns-clause-waits : goal.returns-clause-waits
returns-clause-waits g c = λ other. c.loop.invariant.waits

pub returns-clause-unwaited : goal.returns-clause-unwaited
returns-clause-unwaited g c =
    let i = c.loop.invariant.waits in
    not_failed _ _ i.0 c.args.self.now.poller c.loop.self.poller (λ is. clock_waits (err_is _ _ (Err _) refl is)) i.1
