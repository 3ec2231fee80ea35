use Rattle.std.proofs.Common.{◌∙◌, ℕ, Option, ap, refl, subst, sym}
use Rattle.ipx_site.specs.DropLog.{AreDropsLogged}
use Rattle.ipx_site.specs.IdleTime.{EventCounts, counts_to_log, happened}
use Rattle.ipx_sockets.specs.Moments.{AreLoggedIfDue}
use Rattle.ipx_site.specs.RouterRounds.{AsksAgain}
use Rattle.ipx_site.specs.RouterWork.{notes_of}
use Rattle.ipx_site.specs.SiteCore.{SiteCore}
use Rattle.ipx_site.specs.WorkRefusals.{DoesUnless, IsDoneIfDue, WorkNotes, with_refusals}
use Rattle.ipx_site.specs.declared.drop_log.DropLog.{DropLog}
use Rattle.ipx_site.specs.declared.warnings.Warnings.{Warnings}
use Rattle.ipx_site.proofs.Worked.{does_then}
use Rattle.ipx_site.proofs.running_router.RunningRouter.keep.Goals as goal

pub returns-clause-told : goal.returns-clause-told
returns-clause-told g c =
    let s = c.look_and_write.new.self in
    let told = subst (λ (n : EventCounts). AreLoggedIfDue (counts_to_log n) c.args.now s.warnings.causes c.tell.new.self.causes) c.metrics-metrics.ensures.happened c.tell.ensures in
    subst (λ (t : Warnings). AreLoggedIfDue (counts_to_log (happened s.totals s.core s.ports)) c.args.now t.causes c.tell.new.self.causes)
    (c.look_and_write.ensures.warnings ∙ ap (λ n. n.warnings) c.ask.ensures.notes) told

pub returns-clause-core : goal.returns-clause-core
returns-clause-core g c =
    let self = c.args.self.now in
    let kept = subst (λ (core : SiteCore). AsksAgain c.args.now self.asked c.ask.new.self.asked self.core core) (sym c.look_and_write.ensures.core) c.ask.ensures.core in
    subst (λ (asked : ℕ). AsksAgain c.args.now self.asked asked self.core c.look_and_write.new.self.core) (sym c.look_and_write.ensures.asked) kept

pub returns-clause-written : goal.returns-clause-written
returns-clause-written g c =
    subst (λ (at : Option ℕ). IsDoneIfDue 10000 c.args.now at c.look_and_write.new.self.written) (ap (λ n. n.written) c.ask.ensures.notes) c.look_and_write.ensures.written

pub returns-clause-totals : goal.returns-clause-totals
returns-clause-totals g c =
    let s = c.ask.new.self in
    let t = c.look_and_write.new.self in
    let refused = c.look_and_write.ensures.totals.0 in
    let told = does_then refused s.ports s.core c.args.now c.args.now (notes_of s) (notes_of t) t.totals c.tell.new.self c.tell-2.new.self refl c.look_and_write.ensures.totals.2 in
    let after = record (notes_of t) { warnings = c.tell.new.self; drops = c.tell-2.new.self } in
    let at_ports = subst (λ p. DoesUnless refused p s.core c.args.now (notes_of s) after) c.ask.ensures.ports told in
    let at_core = subst (λ (k : SiteCore). DoesUnless refused c.args.self.now.ports k c.args.now (notes_of s) after) (sym c.look_and_write.ensures.core) at_ports in (
      refused,
      c.look_and_write.ensures.totals.1 ∙ ap (λ n. with_refusals refused n.totals) c.ask.ensures.notes,
      subst (λ (n : WorkNotes). DoesUnless refused c.args.self.now.ports t.core c.args.now n after) c.ask.ensures.notes at_core,
    )
