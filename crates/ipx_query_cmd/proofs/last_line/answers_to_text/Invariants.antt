use Rattle.std.proofs.Common.{◌≡◌, string_bytes, take}
use Rattle.std.specs.List.{flat_map}
use Rattle.ipx_query_cmd.specs.OperatorLines.{answered_text}
use Rattle.ipx_query_cmd.proofs.last_line.answers_to_text.Given as goal

abbrev pub invariant-loop-answer : goal.invariant-loop-answer
invariant-loop-answer l = string_bytes l.text ≡ flat_map answered_text (take l.answer-index l.answers)
