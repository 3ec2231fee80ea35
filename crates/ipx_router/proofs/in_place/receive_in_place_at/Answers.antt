use Rattle.std.proofs.Common.{subst}
use Rattle.std.specs.Prelude.{IfOk, OnErr}
use Rattle.ipx_router.specs.Knowledge.{Known}
use Rattle.ipx_router.specs.InPlaceView.{outcome_in}
use Rattle.ipx_router.specs.Answer.{AnswersBytes}
use Rattle.ipx_router.specs.OutOfMemoryCases.{BytesOutOfMemoryInPlace}
use Rattle.ipx_router.proofs.Receiving.{known_same}
use Rattle.ipx_router.proofs.KeptTables.{sound_aged}
use Rattle.ipx_router.proofs.in_place.receive_in_place_at.Goals as goal

pub answer_in_place-requires-clause-sound : goal.answer_in_place-requires-clause-sound
answer_in_place-requires-clause-sound c =
    sound_aged c.args.ports.now c.args.at.now (c.args.routes.now, c.args.services.now) (c.age.new.self, c.age-2.new.self) c.requires.sound c.age.ensures.valid c.age-2.ensures.valid c.age.ensures.capacity c.age-2.ensures.capacity c.age.ensures.aged c.age-2.ensures.aged

pub returns-clause-answer : goal.returns-clause-answer
returns-clause-answer c =
    let same = known_same c.args.ports.now c.args.at.now c.args.routes.now c.age.new.self c.args.services.now c.age-2.new.self c.age.ensures.aged c.age-2.ensures.aged in
    subst (λ (k : Known). IfOk c.answer_in_place.result (λ o. AnswersBytes k c.args.at c.args.bytes.now (outcome_in c.answer_in_place.new.bytes o) (c.answer_in_place.new.routes, c.answer_in_place.new.services))) same c.answer_in_place.ensures.answer

pub returns-clause-refused : goal.returns-clause-refused
returns-clause-refused c =
    let same = known_same c.args.ports.now c.args.at.now c.args.routes.now c.age.new.self c.args.services.now c.age-2.new.self c.age.ensures.aged c.age-2.ensures.aged in
    subst (λ (k : Known). OnErr c.answer_in_place.result (BytesOutOfMemoryInPlace k c.args.at c.args.bytes.now (c.answer_in_place.new.routes, c.answer_in_place.new.services))) same c.answer_in_place.ensures.refused
