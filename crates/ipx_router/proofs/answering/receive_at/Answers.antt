use Rattle.std.proofs.Common.{subst}
use Rattle.std.specs.Prelude.{IfOk, OnErr}
use Rattle.ipx_router.specs.Knowledge.{Known}
use Rattle.ipx_router.specs.OutcomeView.{router_outcome}
use Rattle.ipx_router.specs.Answer.{AnswersBytes}
use Rattle.ipx_router.specs.OutOfMemoryCases.{BytesOutOfMemory}
use Rattle.ipx_router.proofs.Receiving.{known_same}
use Rattle.ipx_router.proofs.KeptTables.{sound_aged}
use Rattle.ipx_router.proofs.answering.receive_at.Goals as goal

pub answer_to-requires-clause-sound : goal.answer_to-requires-clause-sound
answer_to-requires-clause-sound c =
    sound_aged c.args.ports.now c.args.at.now (c.args.routes.now, c.args.services.now) (c.age.new.self, c.age-2.new.self) c.requires.sound c.age.ensures.valid c.age-2.ensures.valid c.age.ensures.capacity c.age-2.ensures.capacity c.age.ensures.aged c.age-2.ensures.aged

pub returns-clause-answer : goal.returns-clause-answer
returns-clause-answer c =
    let same = known_same c.args.ports.now c.args.at.now c.args.routes.now c.age.new.self c.args.services.now c.age-2.new.self c.age.ensures.aged c.age-2.ensures.aged in
    subst (λ (k : Known). IfOk c.answer_to.result (λ o. AnswersBytes k c.args.at c.args.bytes.now (router_outcome o) (c.answer_to.new.routes, c.answer_to.new.services))) same c.answer_to.ensures.answer

pub returns-clause-refused : goal.returns-clause-refused
returns-clause-refused c =
    let same = known_same c.args.ports.now c.args.at.now c.args.routes.now c.age.new.self c.args.services.now c.age-2.new.self c.age.ensures.aged c.age-2.ensures.aged in
    subst (λ (k : Known). OnErr c.answer_to.result (BytesOutOfMemory k c.args.at c.args.bytes.now (c.answer_to.new.routes, c.answer_to.new.services))) same c.answer_to.ensures.refused
