use Rattle.std.proofs.Common.{◌≡◌, map, take}
use Rattle.ipx_query_cmd.specs.OperatorLines.{answering_nodes}
use Rattle.ipx_query_cmd.proofs.answer_times.AnswerTimes.answers.Given as goal

abbrev pub invariant-loop-place : goal.invariant-loop-place
invariant-loop-place g l = map (λ a. a.node) l.answers.items ≡ answering_nodes (take l.place l.routers)
