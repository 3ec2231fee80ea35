use Rattle.std.proofs.Common.{◌≡◌, ◌++◌, ◌∙◌, string_bytes}
use Rattle.std.specs.Prelude.{codes}
use Rattle.std.proofs.lemmas.Result.{IfOk-weaker}
use Rattle.ipx_inspect.specs.ShowLine.{counts_text, word_text}
use Rattle.ipx_inspect.proofs.show_line.counts_to_text.Goals as goal

pub returns : goal.returns
returns c =
    let header = c.args.header in
    let seq : string_bytes c.in_ok-seq.seq ≡ word_text header.seq = c.in_ok-seq.ensures in
    let ack : string_bytes c.in_ok-ack.ack ≡ word_text header.ack = c.in_ok-ack.ensures in
    let limit : string_bytes c.in_ok-limit.limit ≡ word_text header.limit = c.in_ok-limit.ensures in
    let printed = codes "seq " ++ (string_bytes c.in_ok-seq.seq ++ (codes " ack " ++ (string_bytes c.in_ok-ack.ack ++ (codes " limit " ++ string_bytes c.in_ok-limit.limit)))) in
    let text : printed ≡ counts_text header = λ i. codes "seq " ++ (seq i ++ (codes " ack " ++ (ack i ++ (codes " limit " ++ limit i)))) in
    IfOk-weaker c.format.result (λ s. string_bytes s ≡ printed) (λ s. string_bytes s ≡ counts_text header) (λ s wrote. wrote ∙ text) c.format.ensures.ok
