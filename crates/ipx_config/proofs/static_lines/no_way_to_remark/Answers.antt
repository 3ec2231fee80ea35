use Rattle.std.proofs.Common.{◌≡◌, ◌++◌, ◌∙◌, string_bytes}
use Rattle.std.specs.Prelude.{codes}
use Rattle.std.proofs.lemmas.Result.{IfOk-weaker}
use Rattle.ipx_table_dump.specs.TableText.{network_word}
use Rattle.ipx_config.specs.Checked.{no_way_remark, service_words}
use Rattle.ipx_config.proofs.static_lines.no_way_to_remark.Goals as goal

pub returns : goal.returns
returns c =
    let service = c.args.service.now in
    let words : string_bytes c.in_ok-words.words ≡ service_words service = c.in_ok-words.ensures in
    let network : string_bytes c.in_ok-network.network ≡ network_word service.at.network = c.in_ok-network.ensures in
    let end = codes ": it must be learned by RIP\n" in
    let printed = codes "service " ++ (string_bytes c.in_ok-words.words ++ (codes ": no port and no static route leads to network " ++ (string_bytes c.in_ok-network.network ++ end))) in
    let text : printed ≡ no_way_remark service = λ i. codes "service " ++ (words i ++ (codes ": no port and no static route leads to network " ++ (network i ++ end))) in
    IfOk-weaker c.format.result (λ s. string_bytes s ≡ printed) (λ s. string_bytes s ≡ no_way_remark service) (λ s wrote. wrote ∙ text) c.format.ensures.ok
