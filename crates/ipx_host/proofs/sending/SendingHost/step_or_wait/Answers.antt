use Rattle.std.proofs.Common.{inl, false, true, Bool, ◌≡◌, Err, refl, subst, sym}
use Rattle.std.proofs.lemmas.Result.{err_from_is_err_and}
use Rattle.ipx_host.specs.Midway.{around_of, sending_at}
use Rattle.ipx_host.proofs.Surrounding.{same_around}
use Rattle.ipx_host.proofs.Fed.{step_err, step_ok, step_unwaited, step_waited}
use Rattle.ipx_sockets.specs.declared.poller.Poller.{Poller}
use Rattle.ipx_sockets.specs.Polling.{WaitsOnce}
use Rattle.ipx_sockets.proofs.Waits.{err_is, not_err, not_waited, unwaited, waited}
use Rattle.ipx_host.proofs.Polled.{send_fault}
use Rattle.ipx_host.proofs.Slept.{may_wait}
use Rattle.ipx_host.proofs.sending.SendingHost.step_or_wait.Goals as goal

not_true : (b : Bool) → b ≡ false → b ≡ true → ⊥
not_true true e k = cc
not_true false e k = cc

pub returns-then-branch-clause-steps : goal.returns-then-branch-clause-steps
returns-then-branch-clause-steps g c =
    let old = c.args.self.now in
    let new = c.step.new.self in
    let before = sending_at old (g.I.Read.remaining c.args.reader.now) in
    let after = sending_at new (g.I.Read.remaining c.step.new.reader) in
    step_ok before after c.in_ok-step.field-0 _ _ old.id _ _ (λ turn w active. c.step.ensures.poller) c.in_ok-step.ensures.steps

pub returns-in-Ok-clause-steps : goal.returns-in-Ok-clause-steps
returns-in-Ok-clause-steps g c =
    let old = c.args.self.now in
    let new = c.step.new.self in
    let waited = c.wait.new.self in
    let before = sending_at old (g.I.Read.remaining c.args.reader.now) in
    let after = sending_at new (g.I.Read.remaining c.step.new.reader) in
    step_waited before (around_of new.station) (around_of waited) new.station.core waited.core _ _ _ _ _ _ _ _ old.id _ (same_around new.station waited c.wait.ensures.clock c.wait.ensures.host_socket) c.wait.ensures.core
    (step_ok before after c.in_ok-step.field-0 _ _ old.id _ _ (λ turn w active. absurd (not_true c.in_ok-step.field-0 c.if-branch.false (w active))) c.in_ok-step.ensures.steps)

pub returns-in-Err-clause-steps : goal.returns-in-Err-clause-steps
returns-in-Err-clause-steps g c =
    let old = c.args.self.now in
    let new = c.step.new.self in
    let waited = c.wait.new.self in
    let before = sending_at old (g.I.Read.remaining c.args.reader.now) in
    let after = sending_at new (g.I.Read.remaining c.step.new.reader) in
    step_waited before (around_of new.station) (around_of waited) new.station.core waited.core _ _ _ _ _ _ _ _ old.id _ (same_around new.station waited c.wait.ensures.clock c.wait.ensures.host_socket) c.wait.ensures.core
    (step_unwaited before after c.in_ok-step.field-0 _ _ old.id _ _ (λ turn w active. absurd (not_true c.in_ok-step.field-0 c.if-branch.false (w active))) c.in_ok-step.ensures.steps)

pub returns-in_err-step-clause-steps : goal.returns-in_err-step-clause-steps
returns-in_err-step-clause-steps g c =
    let old = c.args.self.now in
    let new = c.step.new.self in
    let before = sending_at old (g.I.Read.remaining c.args.reader.now) in
    let after = sending_at new (g.I.Read.remaining c.step.new.reader) in
    let p = err_from_is_err_and c.from_residual.result c.from_residual.ensures.1 in
    rw (p.1, p.2) (step_err before after _ _ _ old.id _ _ (λ turn w active. c.step.ensures.poller) c.in_err-step.ensures.steps)

pub returns-then-branch-clause-waits : goal.returns-then-branch-clause-waits
returns-then-branch-clause-waits g c = inl c.step.ensures.poller

pub returns-in_err-step-clause-waits : goal.returns-in_err-step-clause-waits
returns-in_err-step-clause-waits g c = inl c.step.ensures.poller

pub returns-in-Ok-clause-waits : goal.returns-in-Ok-clause-waits
returns-in-Ok-clause-waits g c = may_wait c.step.new.self.shows c.step.new.self.left c.step.new.self.station.core c.wait.new.self.core c.args.self.now.station.poller c.step.new.self.station.poller c.wait.new.self.poller c.longest-longest.result c.longest-longest.ensures c.wait.ensures.core c.step.ensures.poller c.wait.ensures.sleeps

pub returns-in-Err-clause-waits : goal.returns-in-Err-clause-waits
returns-in-Err-clause-waits g c = may_wait c.step.new.self.shows c.step.new.self.left c.step.new.self.station.core c.wait.new.self.core c.args.self.now.station.poller c.step.new.self.station.poller c.wait.new.self.poller c.longest-longest.result c.longest-longest.ensures c.wait.ensures.core c.step.ensures.poller c.wait.ensures.sleeps

pub returns-then-branch-clause-unwaited : goal.returns-then-branch-clause-unwaited
returns-then-branch-clause-unwaited g c = not_waited _ _ _ _ (not_err _ _) c.step.ensures.poller

pub returns-in_err-step-clause-unwaited : goal.returns-in_err-step-clause-unwaited
returns-in_err-step-clause-unwaited g c =
    let old = c.args.self.now in
    let new = c.step.new.self in
    let before = sending_at old (g.I.Read.remaining c.args.reader.now) in
    let after = sending_at new (g.I.Read.remaining c.step.new.reader) in
    let p = err_from_is_err_and c.from_residual.result c.from_residual.ensures.1 in
    rw (p.1, p.2) (not_waited _ _ _ _ (λ is. send_fault before after _ _ _ old.id _ c.in_err-step.ensures.steps (err_is _ _ (Err _) refl is)) c.step.ensures.poller)

pub returns-in-Ok-clause-unwaited : goal.returns-in-Ok-clause-unwaited
returns-in-Ok-clause-unwaited g c = waited _ _ c.args.self.now.station.poller c.wait.new.self.poller (not_err _ _) (sym c.in-Ok.ensures.failed)

pub returns-in-Err-clause-unwaited : goal.returns-in-Err-clause-unwaited
returns-in-Err-clause-unwaited g c =
    let slept = c.wait.ensures.sleeps in
    let once = subst (λ (p : Poller). WaitsOnce slept.0 p c.wait.new.self.poller) c.step.ensures.poller slept.2 in
    unwaited _ _ slept.0 c.args.self.now.station.poller c.wait.new.self.poller refl once (sym c.in-Err.ensures.failed)
