use Rattle.std.proofs.Common.{List, Result, Ok, Err, inr, refl, subst}
use Rattle.std.specs.Result.{OnErr, OnOk}
use Rattle.ipx_source_checks.specs.declared.failed_check.CheckedPort.{CheckedPort}
use Rattle.ipx_source_checks.specs.declared.failed_check.FailedCheck.{FailedCheck}
use Rattle.ipx_source_checks.specs.SourceChecks.{FailsAt}
use Rattle.ipx_source_checks.specs.SourceChecked.{HearsChecked, HearOutOfMemoryChecked, SourceCheckedView}
use Rattle.ipx_source_checks.proofs.source_checked.SourceCheckedCore.hear.Goals as goal

along : {A E P Q : Type 0} (r : Result A E) → (P → Q) → OnOk r P → OnOk r Q
along (Ok x) f h = f h
along (Err e) f h = h

along_err : {A E P Q : Type 0} (r : Result A E) → (P → Q) → OnErr r P → OnErr r Q
along_err (Ok x) f h = h
along_err (Err e) f h = f h

pub returns-in-None-clause-heard : goal.returns-in-None-clause-heard
returns-in-None-clause-heard g c =
    let inside = c.self.inside in
    let new : SourceCheckedView g.row.C.Denot = record { core = c.hear.new.self; ports = inside.ports.items; drops = inside.drops } in
    let none = subst (λ (ports : List CheckedPort). (f : FailedCheck) → FailsAt ports c.args.port c.args.bytes.now f → ⊥) c.deref.ensures.value c.in-None.ensures.none in
    along c.hear.result
    (λ heard. subst (λ (v : SourceCheckedView g.row.C.Denot). HearsChecked g.C.Core.hears v c.args.port c.args.bytes.now c.args.now new) c.self.view_is
    (inr (none, heard, refl)))
    c.hear.ensures.heard

pub returns-in-None-clause-refused : goal.returns-in-None-clause-refused
returns-in-None-clause-refused g c =
    let inside = c.self.inside in
    let new : SourceCheckedView g.row.C.Denot = record { core = c.hear.new.self; ports = inside.ports.items; drops = inside.drops } in
    let none = subst (λ (ports : List CheckedPort). (f : FailedCheck) → FailsAt ports c.args.port c.args.bytes.now f → ⊥) c.deref.ensures.value c.in-None.ensures.none in
    along_err c.hear.result
    (λ refused. subst (λ (v : SourceCheckedView g.row.C.Denot). HearOutOfMemoryChecked g.C.Core.hear_out_of_memory v c.args.port c.args.bytes.now c.args.now new) c.self.view_is
    (none, refused, refl))
    c.hear.ensures.refused
