use Rattle.std.proofs.Common.{◌≡◌, ◌∙◌, string_bytes}
use Rattle.std.proofs.lemmas.Result.{IfOk-weaker}
use Rattle.ipx_query_cmd.specs.Listed.{ListsServices}
use Rattle.ipx_query_cmd.specs.OperatorLines.{services_text}
use Rattle.ipx_query_cmd.proofs.services.asked_to_text.Goals as goal

pub returns : goal.returns
returns g c =
    let asked = c.args.asked.now in
    let listed = c.in-Ok.listed.items in
    let answers = c.in_ok-answers.answers.items in
    let given = services_text c.args.json c.deref.result.now c.deref-2.result.now in
    let same : given ≡ services_text c.args.json listed answers = λ i. services_text c.args.json (c.deref.ensures.value i) (c.deref-2.ensures.value i) in
    IfOk-weaker c.services_to_text.result (λ t. string_bytes t ≡ given) (λ t. ListsServices c.args.json asked.host.core asked.over (string_bytes t))
    (λ t prints. record { listed = listed; best = c.in-Ok.ensures.listed; answers = answers; who = c.in_ok-answers.ensures; prints = prints ∙ same })
    c.services_to_text.ensures
