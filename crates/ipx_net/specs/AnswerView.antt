-- The answer of a network, without its place in memory.
use Rattle.std.specs.Prelude.{ℕ, List, Option}
use Rattle.ipx_router.specs.declared.reason.Reason.{Reason}
use Rattle.spx_messages.specs.declared.arrived.Arrived.{Arrived}
use Rattle.spx_messages.specs.declared.fault.EndFault.{EndFault}
use Rattle.spx_messages.specs.Taking.{TakenView, taken_view}
use Rattle.ipx_net.specs.declared.answer.Answer.{Answer}
use Rattle.ipx_net.specs.declared.answer.Answer.TheVariants as Answers

pub data AnswerView : Type 0 where
  End : ℕ → AnswerView
  Done : AnswerView
  Taken : TakenView → AnswerView
  Parcels : List ℕ → AnswerView
  ArrivedAt : Option ℕ → Arrived → AnswerView
  Heard : ℕ → AnswerView
  Dropped : Reason → AnswerView
  Refused : EndFault → AnswerView

abbrev pub answer_view : Answer → AnswerView
answer_view (Answers.End who) = End who
answer_view Answers.Done = Done
answer_view (Answers.Taken t) = Taken (taken_view t)
answer_view (Answers.Parcels numbers) = Parcels numbers.items
answer_view (Answers.Arrived who a) = ArrivedAt who a
answer_view (Answers.Heard n) = Heard n
answer_view (Answers.Dropped reason) = Dropped reason
answer_view (Answers.Refused f) = Refused f
