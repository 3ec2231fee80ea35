use Rattle.std.proofs.Common.{IfOk, sym, subst, length}
use Rattle.ipx_net.specs.StepResultView.{step_result_view}
use Rattle.ipx_net.specs.HostEvents.{Dialling, TakingFrom}
use Rattle.ipx_net.specs.NetEvents.{Happens}
use Rattle.ipx_net.specs.EventMemory.{EventNeedsMemory, IsMade}
use Rattle.ipx_net.specs.declared.event.Event.{Event}
use Rattle.ipx_net.proofs.Happened.{after, before, counted, happened}
use Rattle.ipx_net.proofs.Wanting.{quiet_is_none}
use Rattle.ipx_net.proofs.happening.happen.Goals as goal

pub returns-in-Dial-clause-happens : goal.returns-in-Dial-clause-happens
returns-in-Dial-clause-happens c =
    let b = c.args.indexed_log.now in
    subst (λ (e : Event). IfOk c.dial.result (λ g. Happens e (step_result_view g).answer (before c.args.hosts.now c.args.routers.now b c.args.moment.now) (after c.dial.new.hosts c.args.routers.now b (step_result_view g) c.args.moment.now))) (sym c.in-Dial.is)
    (happened (Dialling c.in-Dial.host c.in-Dial.socket c.in-Dial.to c.in-Dial.buffers) c.dial.result c.args.hosts.now c.dial.new.hosts c.args.routers.now b (length c.parcels-first.result.now) c.args.moment.now
    (counted c.parcels-first.result.now b c.parcels-first.ensures) c.dial.ensures.grows)

pub returns-in-Take-clause-happens : goal.returns-in-Take-clause-happens
returns-in-Take-clause-happens c =
    let b = c.args.indexed_log.now in
    subst (λ (e : Event). IfOk c.take.result (λ g. Happens e (step_result_view g).answer (before c.args.hosts.now c.args.routers.now b c.args.moment.now) (after c.take.new.hosts c.args.routers.now b (step_result_view g) c.args.moment.now))) (sym c.in-Take.is)
    (happened (TakingFrom c.in-Take.who) c.take.result c.args.hosts.now c.take.new.hosts c.args.routers.now b (length c.parcels-first.result.now) c.args.moment.now
    (counted c.parcels-first.result.now b c.parcels-first.ensures) c.take.ensures.grows)

pub returns-in-Dial-clause-memory : goal.returns-in-Dial-clause-memory
returns-in-Dial-clause-memory c =
    subst (λ (e : Event). IsMade c.dial.result → EventNeedsMemory (before c.args.hosts.now c.args.routers.now c.args.indexed_log.now c.args.moment.now) e) (sym c.in-Dial.is) c.dial.ensures.memory

pub returns-in-Send-clause-memory : goal.returns-in-Send-clause-memory
returns-in-Send-clause-memory c =
    subst (λ (e : Event). IsMade c.send.result → EventNeedsMemory (before c.args.hosts.now c.args.routers.now c.args.indexed_log.now c.args.moment.now) e) (sym c.in-Send.is) c.send.ensures.memory

pub returns-in-Take-clause-memory : goal.returns-in-Take-clause-memory
returns-in-Take-clause-memory c =
    subst (λ (e : Event). IsMade c.take.result → EventNeedsMemory (before c.args.hosts.now c.args.routers.now c.args.indexed_log.now c.args.moment.now) e) (sym c.in-Take.is) c.take.ensures.memory

pub returns-in-Close-clause-memory : goal.returns-in-Close-clause-memory
returns-in-Close-clause-memory c =
    subst (λ (e : Event). IsMade c.close.result → EventNeedsMemory (before c.args.hosts.now c.args.routers.now c.args.indexed_log.now c.args.moment.now) e) (sym c.in-Close.is) c.close.ensures.memory

pub returns-in-Release-clause-memory : goal.returns-in-Release-clause-memory
returns-in-Release-clause-memory c =
    λ made. subst (EventNeedsMemory (before c.args.hosts.now c.args.routers.now c.args.indexed_log.now c.args.moment.now)) (sym c.in-Release.is) tt

pub returns-in-Tick-clause-memory : goal.returns-in-Tick-clause-memory
returns-in-Tick-clause-memory c = λ made. absurd (quiet_is_none c.quiet.result _ c.quiet.ensures made)

pub returns-in-Pace-clause-memory : goal.returns-in-Pace-clause-memory
returns-in-Pace-clause-memory c = λ made. absurd (quiet_is_none c.pace.result _ c.pace.ensures.quiet made)

pub returns-in-Again-clause-memory : goal.returns-in-Again-clause-memory
returns-in-Again-clause-memory c = λ made. absurd (quiet_is_none c.again.result _ c.again.ensures.quiet made)

pub returns-in-Poll-clause-memory : goal.returns-in-Poll-clause-memory
returns-in-Poll-clause-memory c =
    subst (λ (e : Event). IsMade c.poll.result → EventNeedsMemory (before c.args.hosts.now c.args.routers.now c.args.indexed_log.now c.args.moment.now) e) (sym c.in-Poll.is) c.poll.ensures.memory

pub returns-in-Deliver-clause-memory : goal.returns-in-Deliver-clause-memory
returns-in-Deliver-clause-memory c =
    subst (λ (e : Event). IsMade c.deliver.result → EventNeedsMemory (before c.args.hosts.now c.args.routers.now c.args.indexed_log.now c.args.moment.now) e) (sym c.in-Deliver.is) c.deliver.ensures.memory

pub returns-in-Inject-clause-memory : goal.returns-in-Inject-clause-memory
returns-in-Inject-clause-memory c =
    λ made. subst (EventNeedsMemory (before c.args.hosts.now c.args.routers.now c.args.indexed_log.now c.args.moment.now)) (sym c.in-Inject.is) tt
