use Rattle.std.proofs.Common.{◌≡◌, ◌∙◌, ◌<◌, List, Ok, length, ap, false, refl, subst, sym}
use Rattle.ipx_net.specs.IndexedLogView.{IndexedLogView}
use Rattle.ipx_net.specs.StepResultView.{step_result_view}
use Rattle.ipx_net.specs.NetView.{NetView}
use Rattle.ipx_net.specs.EventMemory.{IsMade}
use Rattle.ipx_net.specs.declared.entry.Entry.{Entry}
use Rattle.ipx_net.specs.declared.step_result.StepResult.{StepResult}
use Rattle.ipx_net.specs.NetEvents.{LeavesMarks}
use Rattle.ipx_net.proofs.NetKept.{both_made, entries_made, err_holds, goes_on, not_spent, ok_holds, holds_still}
use Rattle.ipx_net.proofs.net_state.NetState.go_on.Goals as goal

pub returns-clause-going : goal.returns-clause-going
returns-clause-going c = ap (λ (v : NetView). v.spent) c.self.view_is ∙ not_spent c.args.self.now c.args.event c.requires.sound

pub invariant_of-self-else-is_err-2 : goal.invariant_of-self-else-is_err-2
invariant_of-self-else-is_err-2 c =
    let going : c.self.inside.spent ≡ false = ap (λ (v : NetView). v.spent) c.self.view_is ∙ not_spent c.args.self.now c.args.event c.requires.sound in
    goes_on c.self.inside.hosts c.happen-grown.new.hosts _ _ c.self.inside.indexed_log c.append.new.self (step_result_view c.in-Ok.growth) c.self.inside.moment c.happen-grown.new.moment c.self.inside.spent c.args.event
    c.steps_are_deeds.ensures.order c.steps_are_deeds.ensures.reached going c.self.invariant c.in-Ok.ensures.happens
    (ok_holds c.append.result _ (sym c.is_err-2.ensures.value ∙ c.if-is_err-2.false) c.append.ensures.ok)

pub invariant_of-self : goal.invariant_of-self
invariant_of-self c =
    let going : c.self.inside.spent ≡ false = ap (λ (v : NetView). v.spent) c.self.view_is ∙ not_spent c.args.self.now c.args.event c.requires.sound in
    holds_still c.args.event c.self.inside.hosts c.happen-grown.new.hosts c.self.inside.indexed_log c.self.inside.indexed_log c.self.inside.moment c.happen-grown.new.moment c.self.inside.spent
    going c.self.invariant c.in_default.ensures.homes (c.in_default.ensures.marks tt) refl refl

pub invariant_of-self-then-is_err : goal.invariant_of-self-then-is_err
invariant_of-self-then-is_err c =
    let going : c.self.inside.spent ≡ false = ap (λ (v : NetView). v.spent) c.self.view_is ∙ not_spent c.args.self.now c.args.event c.requires.sound in
    let g : StepResult = c.in-Ok.growth in
    let made : IsMade (Ok g) = entries_made g (subst (λ (es : List Entry). 0 < length es) c.deref.ensures.value (err_holds c.reserve.result _ (sym c.is_err.ensures.value ∙ c.if-is_err.true) c.reserve.ensures.refused)) in
    holds_still c.args.event c.self.inside.hosts c.happen-grown.new.hosts c.self.inside.indexed_log c.self.inside.indexed_log c.self.inside.moment c.happen-grown.new.moment c.self.inside.spent
    going c.self.invariant c.in-Ok.ensures.homes (c.in-Ok.ensures.marks made) refl refl

pub invariant_of-self-then-is_err-2 : goal.invariant_of-self-then-is_err-2
invariant_of-self-then-is_err-2 c =
    let going : c.self.inside.spent ≡ false = ap (λ (v : NetView). v.spent) c.self.view_is ∙ not_spent c.args.self.now c.args.event c.requires.sound in
    let same : c.append.new.self ≡ c.self.inside.indexed_log =
    err_holds c.append.result _ (sym c.is_err-2.ensures.value ∙ c.if-is_err-2.true) c.append.ensures.unchanged in
    let g : StepResult = c.in-Ok.growth in
    let made : IsMade (Ok g) = both_made g (err_holds c.append.result _ (sym c.is_err-2.ensures.value ∙ c.if-is_err-2.true) c.append.ensures.refused) in
    holds_still c.args.event c.self.inside.hosts c.happen-grown.new.hosts c.self.inside.indexed_log c.append.new.self c.self.inside.moment c.happen-grown.new.moment c.self.inside.spent
    going c.self.invariant c.in-Ok.ensures.homes (c.in-Ok.ensures.marks made) (ap (λ (b : IndexedLogView). b.log) same) (ap (λ (b : IndexedLogView). b.parcels) same)

pub returns-then-is_err-clause-marks : goal.returns-then-is_err-clause-marks
returns-then-is_err-clause-marks c =
    let g : StepResult = c.in-Ok.growth in
    let made : IsMade (Ok g) = entries_made g (subst (λ (es : List Entry). 0 < length es) c.deref.ensures.value (err_holds c.reserve.result _ (sym c.is_err.ensures.value ∙ c.if-is_err.true) c.reserve.ensures.refused)) in
    subst (λ (v : NetView). LeavesMarks c.args.event v.now.world.ends c.happen-grown.new.hosts.ends) c.self.view_is (c.in-Ok.ensures.marks made)

pub returns-then-is_err-2-clause-marks : goal.returns-then-is_err-2-clause-marks
returns-then-is_err-2-clause-marks c =
    let g : StepResult = c.in-Ok.growth in
    let made : IsMade (Ok g) = both_made g (err_holds c.append.result _ (sym c.is_err-2.ensures.value ∙ c.if-is_err-2.true) c.append.ensures.refused) in
    subst (λ (v : NetView). LeavesMarks c.args.event v.now.world.ends c.happen-grown.new.hosts.ends) c.self.view_is (c.in-Ok.ensures.marks made)
