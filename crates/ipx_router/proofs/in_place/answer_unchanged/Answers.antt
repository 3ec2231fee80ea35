use Rattle.std.proofs.Common.{subst, sym}
use Rattle.ipx_router.specs.Knowledge.{known_in}
use Rattle.ipx_router.specs.OutcomeView.{OutcomeView, router_outcome}
use Rattle.ipx_router.specs.Answer.{AnswersBytes}
use Rattle.ipx_router.specs.Forwarded.{ForwardsEachReading}
use Rattle.ipx_router.proofs.GoingOn.{forwards_nothing}
use Rattle.ipx_router.proofs.in_place.answer_unchanged.Goals as goal

pub left_in_place-requires : goal.left_in_place-requires
left_in_place-requires c =
    forwards_nothing (known_in c.args.ports.now c.args.routes.now c.args.services.now) c.args.at c.args.bytes.now c.requires.none (router_outcome c.in_ok-outcome.outcome) (c.answer_to.new.routes, c.answer_to.new.services) c.in_ok-outcome.ensures.answer

pub returns-clause-answer : goal.returns-clause-answer
returns-clause-answer c =
    subst (λ (a : OutcomeView). AnswersBytes (known_in c.args.ports.now c.args.routes.now c.args.services.now) c.args.at c.args.bytes.now a (c.answer_to.new.routes, c.answer_to.new.services)) (sym (c.left_in_place.ensures.same c.args.bytes.now)) c.in_ok-outcome.ensures.answer

pub returns-clause-one_hop_on : goal.returns-clause-one_hop_on
returns-clause-one_hop_on c = subst (λ (a : OutcomeView). ForwardsEachReading c.args.at.port c.args.bytes.now a) (sym (c.left_in_place.ensures.same c.args.bytes.now)) c.in_ok-outcome.ensures.one_hop_on

pub returns-clause-stays : goal.returns-clause-stays
returns-clause-stays c = c.left_in_place.ensures.stays c.args.bytes.now
