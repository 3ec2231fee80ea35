use Rattle.std.proofs.Common.{◌≡◌, ◌++◌, ◌∙◌, string_bytes}
use Rattle.std.specs.Prelude.{codes}
use Rattle.std.proofs.lemmas.Result.{IfOk-weaker}
use Rattle.ipx_query_cmd.specs.OperatorLines.{answered_text, node_digits, tenths_text}
use Rattle.ipx_query_cmd.proofs.last_line.answer_to_text.Goals as goal

pub returns : goal.returns
returns c =
    let answer = c.args.answer in
    let node : string_bytes c.in_ok-node.node ≡ node_digits answer.node = c.in_ok-node.ensures in
    let time : string_bytes c.in_ok-time.time ≡ tenths_text answer.tenths =
    c.in_ok-time.ensures ∙ (λ i. tenths_text (c.from.ensures i)) in
    let printed = codes ", " ++ (string_bytes c.in_ok-node.node ++ (codes " answered in " ++ string_bytes c.in_ok-time.time)) in
    let text : printed ≡ answered_text answer = λ i. codes ", " ++ (node i ++ (codes " answered in " ++ time i)) in
    IfOk-weaker c.format.result (λ s. string_bytes s ≡ printed) (λ s. string_bytes s ≡ answered_text answer) (λ s wrote. wrote ∙ text) c.format.ensures.ok
