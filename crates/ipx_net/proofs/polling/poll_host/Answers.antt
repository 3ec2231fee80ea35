use Rattle.std.proofs.Common.{[], ◌∙◌, ap, arith}
use Rattle.ipx_net.specs.AnswerView.{Parcels}
use Rattle.ipx_net.specs.StepResultView.{step_result_view}
use Rattle.ipx_net.proofs.EventSteps.{if_ok_then, polling_grows, polling_none}
use Rattle.ipx_net.proofs.polling.poll_host.Goals as goal

pub returns-clause-grows : goal.returns-clause-grows
returns-clause-grows c =
    if_ok_then c.posted.result _ _
    (λ g same. polling_grows c.args.hosts.now c.poll.new.self c.args.host c.args.first c.args.now (c.in-Some.next, c.in-Some.length) _ c.poll.new.room c.unwrap-segment.result c.spoke.result _ _ (step_result_view g)
    (omega arith) c.in-Some.ensures.still
    c.in-Some.ensures.polled
    (cc (c.network.ensures, c.unwrap-segment.ensures)) c.spoke.ensures.there
    c.in_ok-parcel.ensures
    c.in_ok-entries.ensures same)
    c.posted.ensures

pub returns-in_default-clause-grows : goal.returns-in_default-clause-grows
returns-in_default-clause-grows c =
    polling_none c.args.hosts.now c.poll.new.self c.args.host c.args.first c.args.now _ c.poll.new.room (step_result_view c.quiet.result)
    (omega arith) c.in_default.ensures.still c.in_default.ensures.polled
    (c.quiet.ensures ∙ ap (λ ns. record { parcels = []; notes = []; answer = Parcels ns }) c.new.ensures.items)
