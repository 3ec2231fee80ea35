use Rattle.std.proofs.Common.{◌≡◌, ◌++◌, ◌∷◌, [], ◌∙◌, length, string_bytes}
use Rattle.std.specs.Prelude.{codes}
use Rattle.std.specs.Fmt.{decimal}
use Rattle.std.proofs.lemmas.Result.{IfOk-weaker}
use Rattle.hex.specs.Hex.{encode_lower}
use Rattle.ipx_inspect.specs.ShowLine.{control_text, counts_text, ids_text, spx_line}
use Rattle.ipx_inspect.proofs.show_line.spx_to_line.Goals as goal

pub returns : goal.returns
returns c =
    let header = c.args.header in
    let payload = c.args.payload.now in
    let control : string_bytes c.in_ok-control.control ≡ control_text header = c.in_ok-control.ensures in
    let stream : string_bytes c.in_ok-stream.stream ≡ encode_lower (header.stream ∷ []) = c.in_ok-stream.ensures in
    let ids : string_bytes c.in_ok-ids.ids ≡ ids_text header = c.in_ok-ids.ensures in
    let counts : string_bytes c.in_ok-counts.counts ≡ counts_text header = c.in_ok-counts.ensures in
    let end = codes " body " ++ (decimal (length payload) ++ 10 ∷ []) in
    let printed =
    codes "spx " ++ (string_bytes c.in_ok-control.control ++ (codes " stream " ++ (string_bytes c.in_ok-stream.stream ++ (codes " " ++ (string_bytes c.in_ok-ids.ids ++ (codes " " ++ (string_bytes c.in_ok-counts.counts ++ end))))))) in
    let text : printed ≡ spx_line header payload = λ i. codes "spx " ++ (control i ++ (codes " stream " ++ (stream i ++ (codes " " ++ (ids i ++ (codes " " ++ (counts i ++ end))))))) in
    IfOk-weaker c.format.result (λ s. string_bytes s ≡ printed) (λ s. string_bytes s ≡ spx_line header payload) (λ s wrote. wrote ∙ text) c.format.ensures.ok
