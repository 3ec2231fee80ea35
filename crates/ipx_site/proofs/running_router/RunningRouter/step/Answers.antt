use Rattle.std.proofs.Common.{◌∙◌, ap, rules, subst, sym}
use Rattle.ipx_carrier.specs.ReadySet.{is_any_marked}
use Rattle.ipx_site.specs.IdleTime.{IsDue, deadlines, happened}
use Rattle.ipx_sockets.specs.Polling.{WaitsOnce}
use Rattle.ipx_site.specs.RouterRounds.{IsRound, SleepsAfter}
use Rattle.ipx_site.specs.RouterWork.{notes_of}
use Rattle.ipx_site.specs.SiteMarks.{marks_in}
use Rattle.ipx_sockets.specs.Steady.{NeverGoesBack, StopsThere}
use Rattle.ipx_site.proofs.MarksSeparate.{happened_separate, same_marks}
use Rattle.ipx_site.proofs.Rounds.{round_then, same_deadlines, sleeps_then}
use Rattle.ipx_site.proofs.Worked.{works_then}
use Rattle.ipx_site.proofs.running_router.RunningRouter.step.Goals as goal

pub returns-in_err-wait-clause-core : goal.returns-in_err-wait-clause-core
returns-in_err-wait-clause-core g c =
    let old = c.args.self.now in
    let s = c.round-batch.new.self in
    let t = c.rest-time.new.self in
    let e = c.rest-time.ensures in
    let b = c.round-batch.result in
    let waits_once : WaitsOnce c.rest-time.result old.ready c.wait.new.self =
    subst (λ it. WaitsOnce c.rest-time.result it c.wait.new.self) (e.ready ∙ c.round-batch.ensures.ready) (c.wait.ensures.trace, c.wait.ensures.asked) in
    let same = same_deadlines s.asked t.asked s.looked t.looked s.responses t.responses s.written t.written s.core t.core s.warnings t.warnings s.client_log t.client_log
    (happened s.totals s.core s.ports) (happened t.totals t.core t.ports) s.ports.servers.servers.items t.ports.servers.servers.items e.asked e.looked.0 e.looked.1 e.looked.2 e.core e.warnings e.client_log
    (ap (λ it. happened it t.core t.ports) e.totals ∙ ap (λ it. happened s.totals it t.ports) e.core ∙ ap (λ it. happened s.totals s.core it) e.ports) (ap (λ it. it.servers.servers.items) e.ports) in (
      s.clock,
      b,
      c.rest-time.result,
      (
        t.ports,
        (
          subst (λ it. IsRound old.clock s.clock StopsThere NeverGoesBack old.ports it old.asked t.asked old.core t.core t.ports.ethernet.moment b) (sym e.ports)
              (round_then StopsThere NeverGoesBack old.ports s.ports old.clock s.clock old.asked s.asked t.asked
              old.core s.core t.core s.ports.ethernet.moment t.ports.ethernet.moment b e.asked e.core (ap (λ it. it.ethernet.moment) e.ports) c.round-batch.ensures.core),
          subst (λ it. SleepsAfter (IsDue (deadlines t.asked t.looked t.responses t.written t.core t.warnings t.client_log (happened t.totals t.core t.ports) t.ports.servers.servers.items))
              (is_any_marked (marks_in it)) s.clock t.clock StopsThere c.rest-time.result b.fault b.quiet) (sym e.ports)
              (sleeps_then (deadlines s.asked s.looked s.responses s.written s.core s.warnings s.client_log (happened s.totals s.core s.ports) s.ports.servers.servers.items)
              (deadlines t.asked t.looked t.responses t.written t.core t.warnings t.client_log (happened t.totals t.core t.ports) t.ports.servers.servers.items) (is_any_marked (marks_in s.ports)) s.clock t.clock StopsThere
              c.rest-time.result b.fault b.quiet same e.rests),
          search rules,
        ),
        same_marks t.ports,
      ),
      waits_once,
      works_then old.ports old.core old.asked b (notes_of old) s.ports.ethernet.moment _ s.asked _ (notes_of s) _
          (ap (λ it. it.ethernet.moment) e.ports) e.asked e.notes c.round-batch.ensures.work,
    )

pub returns-clause-core : goal.returns-clause-core
returns-clause-core g c =
    let old = c.args.self.now in
    let s = c.round-batch.new.self in
    let t = c.rest-time.new.self in
    let e = c.rest-time.ensures in
    let b = c.round-batch.result in
    let ports = c.mark_ready.new.ports in
    let m = c.mark_ready.ensures.rest in
    let count = happened_separate t.ports ports m t.totals t.core ∙ ap (λ it. happened it t.core t.ports) e.totals ∙ ap (λ it. happened s.totals it t.ports) e.core
    ∙ ap (λ it. happened s.totals s.core it) e.ports in
    let waits_once : WaitsOnce c.rest-time.result old.ready c.wait.new.self =
    subst (λ it. WaitsOnce c.rest-time.result it c.wait.new.self) (e.ready ∙ c.round-batch.ensures.ready) (c.wait.ensures.trace, c.wait.ensures.asked) in
    let same = same_deadlines s.asked t.asked s.looked t.looked s.responses t.responses s.written t.written s.core t.core s.warnings t.warnings s.client_log t.client_log
    (happened s.totals s.core s.ports) (happened t.totals t.core ports) s.ports.servers.servers.items ports.servers.servers.items e.asked e.looked.0 e.looked.1 e.looked.2 e.core e.warnings e.client_log count
    (ap (λ l. l.servers.items) m.servers ∙ ap (λ it. it.servers.servers.items) e.ports) in (
      s.clock,
      b,
      c.rest-time.result,
      (
        t.ports,
        (
          subst (λ it. IsRound old.clock s.clock StopsThere NeverGoesBack old.ports it old.asked t.asked old.core t.core ports.ethernet.moment b) (sym e.ports)
              (round_then StopsThere NeverGoesBack old.ports s.ports old.clock s.clock old.asked s.asked t.asked
              old.core s.core t.core s.ports.ethernet.moment ports.ethernet.moment b e.asked e.core
              (ap (λ it. it.moment) m.ethernet ∙ ap (λ it. it.ethernet.moment) e.ports) c.round-batch.ensures.core),
          subst (λ it. SleepsAfter (IsDue (deadlines t.asked t.looked t.responses t.written t.core t.warnings t.client_log (happened t.totals t.core ports) ports.servers.servers.items))
              (is_any_marked (marks_in it)) s.clock t.clock StopsThere c.rest-time.result b.fault b.quiet) (sym e.ports)
              (sleeps_then (deadlines s.asked s.looked s.responses s.written s.core s.warnings s.client_log (happened s.totals s.core s.ports) s.ports.servers.servers.items)
              (deadlines t.asked t.looked t.responses t.written t.core t.warnings t.client_log (happened t.totals t.core ports) ports.servers.servers.items) (is_any_marked (marks_in s.ports)) s.clock t.clock StopsThere
              c.rest-time.result b.fault b.quiet same e.rests),
          c.mark_ready.ensures.marks,
        ),
        m,
      ),
      waits_once,
      works_then old.ports old.core old.asked b (notes_of old) s.ports.ethernet.moment _ s.asked _ (notes_of s) _
          (ap (λ it. it.moment) m.ethernet ∙ ap (λ it. it.ethernet.moment) e.ports) e.asked e.notes c.round-batch.ensures.work,
    )
