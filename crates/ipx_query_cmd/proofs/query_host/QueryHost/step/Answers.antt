use Rattle.std.proofs.Common.{[], ◌∷◌, Err, arith, inl, inr, refl}
use Rattle.std.proofs.lemmas.Result.{err_from_is_err_and}
use Rattle.ipx_sockets.proofs.Waits.{both, err_is, not_err, not_waited, unwaited, waited}
use Rattle.ipx_query_cmd.proofs.Pauses.{memory_waits, paused}
use Rattle.ipx_query_cmd.proofs.Rows.{turns_later}
use Rattle.ipx_query_cmd.proofs.query_host.QueryHost.step.Goals as goal

pub returns-then-is_done-clause-asks : goal.returns-then-is_done-clause-asks
returns-then-is_done-clause-asks g c =
    let old = c.args.self.now in
    let turned = c.turn.new.self in
    let a = c.in_ok-active.ensures.asks in
    let told = c.now-now.ensures.told in
    (a.0, turns_later (a.0 ∷ []) old.clock.last turned.clock.last c.now-now.new.self.last old.own_socket.ports turned.own_socket.ports old.core turned.core a.1 (omega (arith, told.0, told.1)), c.turn.ensures.poller)

pub returns-then-active-clause-asks : goal.returns-then-active-clause-asks
returns-then-active-clause-asks g c =
    let old = c.args.self.now in
    let turned = c.turn.new.self in
    let a = c.in_ok-active.ensures.asks in
    let told = c.now-now.ensures.told in
    (a.0, turns_later (a.0 ∷ []) old.clock.last turned.clock.last c.now-now.new.self.last old.own_socket.ports turned.own_socket.ports old.core turned.core a.1 (omega (arith, told.0, told.1)), inl (a.2.0 c.if-active.true, c.turn.ensures.poller))

pub returns-in-Ok-clause-asks : goal.returns-in-Ok-clause-asks
returns-in-Ok-clause-asks g c =
    let old = c.args.self.now in
    let turned = c.turn.new.self in
    let a = c.in_ok-active.ensures.asks in
    let told = c.now-now.ensures.told in (
      a.0,
      turns_later (a.0 ∷ []) old.clock.last turned.clock.last c.now-now.new.self.last old.own_socket.ports turned.own_socket.ports old.core turned.core a.1 (omega (arith, told.0, told.1)),
      inr (λ busy. both _ (a.2.1 busy) c.if-active.false, paused old.poller turned.poller c.wait.new.self c.turn.ensures.poller c.wait.ensures.trace c.wait.ensures.asked),
    )

pub returns-then-is_done-clause-waits : goal.returns-then-is_done-clause-waits
returns-then-is_done-clause-waits g c = inl c.turn.ensures.poller

pub returns-then-active-clause-waits : goal.returns-then-active-clause-waits
returns-then-active-clause-waits g c = inl c.turn.ensures.poller

pub returns-in_err-active-clause-waits : goal.returns-in_err-active-clause-waits
returns-in_err-active-clause-waits g c = inl c.turn.ensures.poller

pub returns-in-Ok-clause-waits : goal.returns-in-Ok-clause-waits
returns-in-Ok-clause-waits g c = inr (paused c.args.self.now.poller c.turn.new.self.poller c.wait.new.self c.turn.ensures.poller c.wait.ensures.trace c.wait.ensures.asked)

pub returns-in-Err-clause-waits : goal.returns-in-Err-clause-waits
returns-in-Err-clause-waits g c = inr (paused c.args.self.now.poller c.turn.new.self.poller c.wait.new.self c.turn.ensures.poller c.wait.ensures.trace c.wait.ensures.asked)

pub returns-then-is_done-clause-unwaited : goal.returns-then-is_done-clause-unwaited
returns-then-is_done-clause-unwaited g c = not_waited _ _ _ _ (not_err _ _) c.turn.ensures.poller

pub returns-then-active-clause-unwaited : goal.returns-then-active-clause-unwaited
returns-then-active-clause-unwaited g c = not_waited _ _ _ _ (not_err _ _) c.turn.ensures.poller

pub returns-in_err-active-clause-unwaited : goal.returns-in_err-active-clause-unwaited
returns-in_err-active-clause-unwaited g c =
    let p = err_from_is_err_and c.from_residual.result c.from_residual.ensures.1 in
    rw (p.1, p.2) (not_waited _ _ _ _ (λ is. memory_waits _ c.in_err-active.ensures.fault (err_is _ _ (Err _) refl is)) c.turn.ensures.poller)

pub returns-in-Ok-clause-unwaited : goal.returns-in-Ok-clause-unwaited
returns-in-Ok-clause-unwaited g c = waited _ _ c.args.self.now.poller c.wait.new.self (not_err _ _) c.in-Ok.ensures.failed

pub returns-in-Err-clause-unwaited : goal.returns-in-Err-clause-unwaited
returns-in-Err-clause-unwaited g c =
    let once = paused c.args.self.now.poller c.turn.new.self.poller c.wait.new.self c.turn.ensures.poller c.wait.ensures.trace c.wait.ensures.asked in
    unwaited _ _ 20 c.args.self.now.poller c.wait.new.self refl once c.in-Err.ensures.failed
