use Rattle.std.proofs.Common.{Err, ap, arith, inl, inr, refl}
use Rattle.std.proofs.lemmas.Result.{err_from_is_err_and}
use Rattle.ipx_sockets.proofs.Waits.{both, err_is, not_err, not_waited, unwaited, waited}
use Rattle.ipx_query_cmd.proofs.Pauses.{memory_waits, paused}
use Rattle.ipx_query_cmd.proofs.PingSteps.{turn_told}
use Rattle.ipx_query_cmd.proofs.pinging_host.PingingHost.step.Goals as goal

pub returns-then-is_done-clause-pings : goal.returns-then-is_done-clause-pings
returns-then-is_done-clause-pings g c =
    let old = c.args.self.now in
    let turned = c.turn.new.self in
    let a = c.in_ok-active.ensures.pings in
    let told = c.now-now.ensures.told in
    let w = g.W.Write.contents c.args.writer.now in
    let v = g.W.Write.contents c.write_news.new.writer in
    let all = turn_told a.0 c.in_ok-active.news old.clock.last turned.clock.last c.now-now.new.self.last old.own_socket.ports turned.own_socket.ports old.core turned.core old.times.items turned.times.items c.keep_time.new.times.items old.to turned.to w v
    a.1 a.2 (omega (arith, told.0, told.1)) (ap (λ t. t.items) c.turn.ensures.times) c.in_ok-keep_time.ensures c.turn.ensures.to c.in_ok-write_news.ensures.writes in
    (a.0, all.0, all.1, all.2, c.turn.ensures.poller)

pub returns-then-active-clause-pings : goal.returns-then-active-clause-pings
returns-then-active-clause-pings g c =
    let old = c.args.self.now in
    let turned = c.turn.new.self in
    let a = c.in_ok-active.ensures.pings in
    let told = c.now-now.ensures.told in
    let w = g.W.Write.contents c.args.writer.now in
    let v = g.W.Write.contents c.write_news.new.writer in
    let all = turn_told a.0 c.in_ok-active.news old.clock.last turned.clock.last c.now-now.new.self.last old.own_socket.ports turned.own_socket.ports old.core turned.core old.times.items turned.times.items c.keep_time.new.times.items old.to turned.to w v
    a.1 a.2 (omega (arith, told.0, told.1)) (ap (λ t. t.items) c.turn.ensures.times) c.in_ok-keep_time.ensures c.turn.ensures.to c.in_ok-write_news.ensures.writes in
    (a.0, all.0, all.1, all.2, inl (a.3.0 c.if-active.true, c.turn.ensures.poller))

pub returns-in-Ok-clause-pings : goal.returns-in-Ok-clause-pings
returns-in-Ok-clause-pings g c =
    let old = c.args.self.now in
    let turned = c.turn.new.self in
    let a = c.in_ok-active.ensures.pings in
    let told = c.now-now.ensures.told in
    let w = g.W.Write.contents c.args.writer.now in
    let v = g.W.Write.contents c.write_news.new.writer in
    let all = turn_told a.0 c.in_ok-active.news old.clock.last turned.clock.last c.now-now.new.self.last old.own_socket.ports turned.own_socket.ports old.core turned.core old.times.items turned.times.items c.keep_time.new.times.items old.to turned.to w v
    a.1 a.2 (omega (arith, told.0, told.1)) (ap (λ t. t.items) c.turn.ensures.times) c.in_ok-keep_time.ensures c.turn.ensures.to c.in_ok-write_news.ensures.writes in
    (a.0, all.0, all.1, all.2, inr (λ busy. both _ (a.3.1 busy) c.if-active.false, paused c.args.self.now.poller c.turn.new.self.poller c.wait.new.self c.turn.ensures.poller c.wait.ensures.trace c.wait.ensures.asked))

pub returns-then-is_done-clause-waits : goal.returns-then-is_done-clause-waits
returns-then-is_done-clause-waits g c = inl c.turn.ensures.poller

pub returns-then-active-clause-waits : goal.returns-then-active-clause-waits
returns-then-active-clause-waits g c = inl c.turn.ensures.poller

pub returns-in_err-active-clause-waits : goal.returns-in_err-active-clause-waits
returns-in_err-active-clause-waits g c = inl c.turn.ensures.poller

pub returns-in_err-keep_time-clause-waits : goal.returns-in_err-keep_time-clause-waits
returns-in_err-keep_time-clause-waits g c = inl c.turn.ensures.poller

pub returns-in_err-write_news-clause-waits : goal.returns-in_err-write_news-clause-waits
returns-in_err-write_news-clause-waits g c = inl c.turn.ensures.poller

pub returns-in-Ok-clause-waits : goal.returns-in-Ok-clause-waits
returns-in-Ok-clause-waits g c = inr (paused c.args.self.now.poller c.turn.new.self.poller c.wait.new.self c.turn.ensures.poller c.wait.ensures.trace c.wait.ensures.asked)

pub returns-in-Err-clause-waits : goal.returns-in-Err-clause-waits
returns-in-Err-clause-waits g c = inr (paused c.args.self.now.poller c.turn.new.self.poller c.wait.new.self c.turn.ensures.poller c.wait.ensures.trace c.wait.ensures.asked)

pub returns-then-is_done-clause-unwaited : goal.returns-then-is_done-clause-unwaited
returns-then-is_done-clause-unwaited g c = not_waited _ _ _ _ (not_err _ _) c.turn.ensures.poller

pub returns-then-active-clause-unwaited : goal.returns-then-active-clause-unwaited
returns-then-active-clause-unwaited g c = not_waited _ _ _ _ (not_err _ _) c.turn.ensures.poller

pub returns-in_err-active-clause-unwaited : goal.returns-in_err-active-clause-unwaited
returns-in_err-active-clause-unwaited g c =
    let p = err_from_is_err_and c.from_residual.result c.from_residual.ensures.1 in
    rw (p.1, p.2) (not_waited _ _ _ _ (λ is. memory_waits _ c.in_err-active.ensures.fault (err_is _ _ (Err _) refl is)) c.turn.ensures.poller)

pub returns-in_err-keep_time-clause-unwaited : goal.returns-in_err-keep_time-clause-unwaited
returns-in_err-keep_time-clause-unwaited g c =
    let p = err_from_is_err_and c.from_residual-in_err-keep_time.result c.from_residual-in_err-keep_time.ensures.1 in
    rw (p.1, p.2) (not_waited _ _ _ _ (λ is. memory_waits _ refl (err_is _ _ (Err _) refl is)) c.turn.ensures.poller)

pub returns-in_err-write_news-clause-unwaited : goal.returns-in_err-write_news-clause-unwaited
returns-in_err-write_news-clause-unwaited g c =
    let p = err_from_is_err_and c.from_residual-in_err-write_news.result c.from_residual-in_err-write_news.ensures.1 in
    rw (p.1, p.2) (not_waited _ _ _ _ (λ is. c.in_err-write_news.ensures.fault (err_is _ _ (Err _) refl is)) c.turn.ensures.poller)

pub returns-in-Ok-clause-unwaited : goal.returns-in-Ok-clause-unwaited
returns-in-Ok-clause-unwaited g c = waited _ _ c.args.self.now.poller c.wait.new.self (not_err _ _) c.in-Ok.ensures.failed

pub returns-in-Err-clause-unwaited : goal.returns-in-Err-clause-unwaited
returns-in-Err-clause-unwaited g c =
    unwaited _ _ 20 c.args.self.now.poller c.wait.new.self refl (paused c.args.self.now.poller c.turn.new.self.poller c.wait.new.self c.turn.ensures.poller c.wait.ensures.trace c.wait.ensures.asked) c.in-Err.ensures.failed
