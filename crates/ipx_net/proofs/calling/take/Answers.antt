use Rattle.std.proofs.Common.{◌++◌, Err, sym, ◌∙◌, ap, subst}
use Rattle.spx_theory.specs.HostSteps.{TakesOf, unit_notes, whole_notes}
use Rattle.ipx_net_hosts.specs.Hosts.{Noting}
use Rattle.ipx_net_hosts.specs.Refusing.{TakeIsRefused}
use Rattle.std.specs.Prelude.{IfErr}
use Rattle.spx_messages.specs.Taking.{result_view, taken_view}
use Rattle.ipx_net.specs.StepResultView.{step_result_view}
use Rattle.ipx_net.proofs.EventSteps.{if_ok_then, taking_err, taking_ok}
use Rattle.ipx_net.proofs.Wanting.{made_or_refused, quiet_is_none, take_is_told}
use Rattle.ipx_net.proofs.calling.take.Goals as goal

pub returns-in-Ok-clause-grows : goal.returns-in-Ok-clause-grows
returns-in-Ok-clause-grows c =
    if_ok_then c.taken.result _ _
    (λ g same. taking_ok c.args.hosts.now c.take-unit.new.self c.args.first c.args.now c.args.who (taken_view c.in-Ok.answer) c.take-unit.result.0 (result_view c.take-unit.result.1) (step_result_view g)
    (ap result_view c.in-Ok.is) (c.take-unit.ensures.takes (λ e. absurd (cc (sym c.in-Ok.is ∙ e)))) same)
    c.taken.ensures.grows

pub returns-in-Err-clause-grows : goal.returns-in-Err-clause-grows
returns-in-Err-clause-grows c =
    let u = c.take-unit.result.0 in
    let who = c.args.who in
    taking_err c.args.hosts.now c.take-unit.new.self c.args.first c.args.now who c.in-Err.fault u (step_result_view c.quiet.result)
    (λ other. subst (λ r. Noting c.args.hosts.now c.take-unit.new.self c.args.now (unit_notes (result_view r) u who ++ whole_notes (result_view r) who) (λ w w'. TakesOf w who (result_view r) w'))
    c.in-Err.is (c.take-unit.ensures.takes (λ e. other (cc (sym c.in-Err.is ∙ e)))))
    (λ is. c.take-unit.ensures.refused (c.in-Err.is ∙ ap Err is))
    (subst (λ r. IfErr r TakeIsRefused) c.in-Err.is c.take-unit.ensures.fault)
    (λ is. c.take-unit.ensures.memory (c.in-Err.is ∙ ap Err is))
    c.quiet.ensures

pub returns-in-Ok-clause-memory : goal.returns-in-Ok-clause-memory
returns-in-Ok-clause-memory c =
    let t = taken_view c.in-Ok.answer in
    made_or_refused c.taken.result _ _ c.taken.ensures.grows c.taken.ensures.refused
    (take_is_told c.args.hosts.now c.take-unit.new.self c.args.now c.args.who t c.take-unit.result.0 (result_view c.take-unit.result.1) (ap result_view c.in-Ok.is) (c.take-unit.ensures.takes (λ e. absurd (cc (sym c.in-Ok.is ∙ e)))))

pub returns-in-Err-clause-memory : goal.returns-in-Err-clause-memory
returns-in-Err-clause-memory c = λ made. absurd (quiet_is_none c.quiet.result _ c.quiet.ensures made)
