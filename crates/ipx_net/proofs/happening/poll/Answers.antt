use Rattle.std.proofs.Common.{IfOk, length, sym, subst}
use Rattle.ipx_net.specs.StepResultView.{step_result_view}
use Rattle.ipx_net.specs.EventMemory.{PollNeedsMemory}
use Rattle.ipx_net.specs.HostEvents.{PollingHost}
use Rattle.ipx_net.specs.NetEvents.{PollsOf}
use Rattle.ipx_net.specs.declared.event.Member.{Member}
use Rattle.ipx_net.proofs.Happened.{after, before, counted, happened, polled_ok}
use Rattle.ipx_net.proofs.happening.poll.Goals as goal

pub returns-in-Router-clause-polls : goal.returns-in-Router-clause-polls
returns-in-Router-clause-polls c =
    let b = c.args.indexed_log.now in
    subst (λ (m : Member). IfOk c.poll_member.result (λ g. PollsOf m (step_result_view g).answer (before c.args.hosts.now c.args.routers.now b c.args.now) (after c.args.hosts.now c.poll_member.new.routers b (step_result_view g) c.args.now))) (sym c.in-Router.is)
    (polled_ok c.poll_member.result c.args.hosts.now c.args.routers.now c.poll_member.new.routers b c.in-Router.router (length c.parcels-first.result.now) c.args.now
    (counted c.parcels-first.result.now b c.parcels-first.ensures) c.poll_member.ensures.polled)

pub returns-in-Host-clause-polls : goal.returns-in-Host-clause-polls
returns-in-Host-clause-polls c =
    let b = c.args.indexed_log.now in
    subst (λ (m : Member). IfOk c.poll_host.result (λ g. PollsOf m (step_result_view g).answer (before c.args.hosts.now c.args.routers.now b c.args.now) (after c.poll_host.new.hosts c.args.routers.now b (step_result_view g) c.args.now))) (sym c.in-Host.is)
    (happened (PollingHost c.in-Host.host) c.poll_host.result c.args.hosts.now c.poll_host.new.hosts c.args.routers.now b (length c.parcels-first.result.now) c.args.now
    (counted c.parcels-first.result.now b c.parcels-first.ensures) c.poll_host.ensures.grows)

pub returns-in-Host-clause-memory : goal.returns-in-Host-clause-memory
returns-in-Host-clause-memory c = λ made.
    subst (λ (m : Member). PollNeedsMemory (before c.args.hosts.now c.args.routers.now c.args.indexed_log.now c.args.now) m) (sym c.in-Host.is) (c.poll_host.ensures.memory made)
