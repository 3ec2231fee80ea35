use Rattle.std.proofs.Common.{◌∙◌, zero, [], Err, ap, arith, refl}
use Rattle.ipx_carrier.specs.Turns.{peers_of}
use Rattle.ipx_host.specs.Midway.{listening_at}
use Rattle.ipx_host.proofs.Hosted.{served, served_long, steps_more}
use Rattle.ipx_sockets.proofs.Waits.{err_is, not_err, not_failed, run_ends, waits_on}
use Rattle.ipx_host.proofs.Polled.{as_rest, lost_waited}
use Rattle.ipx_host.proofs.listening.ListeningHost.serve.Goals as goal

pub loop-step-init : goal.loop-step-init
loop-step-init g c = record { once = refl; peers = refl; waits = (zero, refl); steps = ([], (refl, refl)) }

pub loop-step-preserved : goal.loop-step-preserved
loop-step-preserved g c =
    let held = g.W.Write.contents in
    let old = c.args.self.now in
    let now = c.loop-step.self in
    let new = c.step_or_wait.new.self in
    let i = c.loop-step.invariant in
    let step = c.in_default.ensures.steps in
    let start = listening_at old (held c.args.writer.now) in
    let before = listening_at now (held c.loop-step.writer) in
    let after = listening_at new (held c.step_or_wait.new.writer) in
    record {
      once = c.step_or_wait.ensures.once ∙ i.once;
      peers = c.step_or_wait.ensures.peers ∙ i.peers;
      waits = waits_on i.waits.0 old.station.poller now.station.poller new.station.poller i.waits.1
          (as_rest new.station.core new.sessions.held.items now.station.poller new.station.poller c.step_or_wait.ensures.rests)
          (λ fails. not_err _ _ (c.in_default.ensures.unwaited.1 fails));
      steps = steps_more c.loop-step._step start before after old.sessions.once now.sessions.once _ _ _ i.steps.0 step.0 i.once (ap (λ l. peers_of l.items) i.peers) i.steps.1 step.1;
    }

pub returns-in-Err-clause-serves : goal.returns-in-Err-clause-serves
returns-in-Err-clause-serves g c =
    let held = g.W.Write.contents in
    let old = c.args.self.now in
    let now = c.loop-step.self in
    let new = c.step_or_wait.new.self in
    let i = c.loop-step.invariant in
    let step = c.in-Err.ensures.steps in
    let start = listening_at old (held c.args.writer.now) in
    let before = listening_at now (held c.loop-step.writer) in
    let after = listening_at new (held c.step_or_wait.new.writer) in
    served c.loop-step._step start before after old.sessions.once now.sessions.once c.in-Err.stop _ _ _ i.steps.0 step.0 i.once (ap (λ l. peers_of l.items) i.peers) i.steps.1 step.1

pub returns-clause-serves : goal.returns-clause-serves
returns-clause-serves g c =
    let held = g.W.Write.contents in
    let old = c.args.self.now in
    let now = c.loop-step.self in
    let i = c.loop-step.invariant in
    let start = listening_at old (held c.args.writer.now) in
    let before = listening_at now (held c.loop-step.writer) in
    served_long c.loop-step._step start before old.sessions.once _ _ i.steps.0 (omega (arith, c.loop-step-test.false, c.loop-step.auto._step-end)) i.steps.1

pub returns-in-Err-clause-unwaited : goal.returns-in-Err-clause-unwaited
returns-in-Err-clause-unwaited g c =
    let old = c.args.self.now.station.poller in
    let now = c.loop-step.self.station.poller in
    let new = c.step_or_wait.new.self in
    let i = c.loop-step.invariant.waits in
    run_ends c.in-Err.stop _ i.0 old now new.station.poller i.1
    (as_rest new.station.core new.sessions.held.items now new.station.poller c.step_or_wait.ensures.rests) (λ is. c.in-Err.ensures.unwaited.0 (ap Err is)) (λ fails. err_is _ _ (Err _) refl (c.in-Err.ensures.unwaited.1 fails))

pub returns-in-Err-clause-waits : goal.returns-in-Err-clause-waits
returns-in-Err-clause-waits g c = λ other.
    let old = c.args.self.now.station.poller in
    let now = c.loop-step.self.station.poller in
    let new = c.step_or_wait.new.self in
    let i = c.loop-step.invariant.waits in
    waits_on i.0 old now new.station.poller i.1
    (as_rest new.station.core new.sessions.held.items now new.station.poller c.step_or_wait.ensures.rests)
    (λ fails. other (err_is _ _ (Err _) refl (c.in-Err.ensures.unwaited.1 fails)))

pub returns-clause-unwaited : goal.returns-clause-unwaited
returns-clause-unwaited g c =
    let i = c.loop-step.invariant.waits in
    not_failed _ _ i.0 c.args.self.now.station.poller c.loop-step.self.station.poller lost_waited i.1

pub returns-clause-waits : goal.returns-clause-waits
returns-clause-waits g c = λ other. c.loop-step.invariant.waits
