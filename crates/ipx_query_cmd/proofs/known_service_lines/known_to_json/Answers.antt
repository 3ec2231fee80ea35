use Rattle.std.proofs.Common.{◌≡◌, ◌++◌, ◌∙◌, string_bytes}
use Rattle.std.specs.Prelude.{codes}
use Rattle.std.specs.List.{flat_map}
use Rattle.ipx_table_dump.specs.TableRead.{service_spelled}
use Rattle.ipx_query_cmd.specs.KnownLines.{known_json_byte, known_place_json, known_service_json}
use Rattle.ipx_query_cmd.specs.OperatorLines.{type_json}
use Rattle.ipx_query_cmd.proofs.known_service_lines.known_to_json.Goals as goal

pub returns : goal.returns
returns c =
    let s = service_spelled c.args.service.now in
    let kind : string_bytes c.in_ok-kind.kind ≡ type_json s.kind = c.in_ok-kind.ensures in
    let name : string_bytes c.in_ok-name.name ≡ flat_map known_json_byte s.name = c.in_ok-name.ensures in
    let place : string_bytes c.in_ok-place.place ≡ known_place_json s = c.in_ok-place.ensures in
    let hops : c.in_ok-hops.hops.now ≡ s.hops = c.in_ok-hops.ensures in
    let by : c.in_ok-by.by.now ≡ s.next = c.in_ok-by.ensures in
    let end = codes "\"}\n" in
    let text : codes "{" ++ (string_bytes c.in_ok-kind.kind ++ (codes ",\"name\":\"" ++ (string_bytes c.in_ok-name.name ++ (codes "\"," ++ (string_bytes c.in_ok-place.place ++ (codes ",\"hops\":" ++ (c.in_ok-hops.hops.now ++ (codes ",\"by\":\"" ++ (c.in_ok-by.by.now ++ end))))))))) ≡ known_service_json s =
    λ i. codes "{" ++ (kind i ++ (codes ",\"name\":\"" ++ (name i ++ (codes "\"," ++ (place i ++ (codes ",\"hops\":" ++ (hops i ++ (codes ",\"by\":\"" ++ (by i ++ end))))))))) in
    c.in_ok-line.ensures.ok ∙ text
