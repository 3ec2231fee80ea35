use Rattle.std.proofs.Common.{◌∙◌}
use Rattle.ipx_query_cmd.specs.OperatorLines.{answered_text}
use Rattle.ipx_query_cmd.proofs.Rows.{texts_more}
use Rattle.ipx_query_cmd.proofs.last_line.answers_to_text.Goals as goal

pub loop-answer-preserved : goal.loop-answer-preserved
loop-answer-preserved c =
    c.in_ok-push_str.ensures.bytes
    ∙ texts_more answered_text c.args.answers.now c.loop-answer.answer-index _ _ _ c.loop-answer-test.true c.loop-answer.invariant (c.deref.ensures ∙ c.in_ok-part.ensures)
