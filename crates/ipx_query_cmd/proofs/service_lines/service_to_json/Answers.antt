use Rattle.std.proofs.Common.{◌≡◌, ◌++◌, ◌∙◌, string_bytes}
use Rattle.std.specs.Prelude.{codes}
use Rattle.std.specs.Fmt.{decimal}
use Rattle.std.proofs.lemmas.Result.{IfOk-weaker}
use Rattle.ipx_query_cmd.specs.OperatorLines.{json_name, node_digits, place_json, service_json, type_digits, type_json}
use Rattle.ipx_query_cmd.proofs.service_lines.service_to_json.Goals as goal

pub returns : goal.returns
returns c =
    let told = c.args.told.now in
    let kind : string_bytes c.in_ok-kind.kind ≡ type_json (type_digits told.0.kind) = c.in_ok-kind.ensures in
    let name : string_bytes c.in_ok-name.name ≡ json_name told.0.name = c.in_ok-name.ensures in
    let place : string_bytes c.in_ok-place.place ≡ place_json told.2.at = c.in_ok-place.ensures in
    let by : string_bytes c.in_ok-by.by ≡ node_digits told.1.neighbour = c.in_ok-by.ensures in
    let end = codes "\"}\n" in
    let hops = decimal told.2.hops in
    let printed =
    codes "{" ++ (string_bytes c.in_ok-kind.kind ++ (codes ",\"name\":\"" ++ (string_bytes c.in_ok-name.name ++ (codes "\"," ++ (string_bytes c.in_ok-place.place ++ (codes ",\"hops\":" ++ (hops ++ (codes ",\"by\":\"" ++ (string_bytes c.in_ok-by.by ++ end))))))))) in
    let text : printed ≡ service_json told =
    λ i. codes "{" ++ (kind i ++ (codes ",\"name\":\"" ++ (name i ++ (codes "\"," ++ (place i ++ (codes ",\"hops\":" ++ (hops ++ (codes ",\"by\":\"" ++ (by i ++ end))))))))) in
    IfOk-weaker c.format.result (λ s. string_bytes s ≡ printed) (λ s. string_bytes s ≡ service_json told) (λ s wrote. wrote ∙ text) c.format.ensures.ok
