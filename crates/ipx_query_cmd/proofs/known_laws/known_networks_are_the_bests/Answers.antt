use Rattle.std.proofs.Common.{◌≡◌, ℕ, suc, ◌+◌, true, false, List, ◌++◌, [], ◌∷◌, length, map, ap, ◌∙◌, refl}
use Rattle.std.specs.Prelude.{codes}
use Rattle.std.specs.List.{flat_map}
use Rattle.std.proofs.lemmas.List.{length-map}
use Rattle.ipx_router.specs.declared.port.Port.{Port}
use Rattle.ipx_table_dump.specs.TableParts.{owns_in_words}
use Rattle.ipx_table_dump.specs.TableRead.{network_in_words}
use Rattle.ipx_query_cmd.specs.KnownLines.{direct_network_json, direct_network_row, known_network_json, known_network_row, known_networks_table, port_json, port_row, written_in}
use Rattle.ipx_query_cmd.specs.OperatorLines.{AdvertisedNetwork, network_json, network_row, count_with_noun}
use Rattle.ipx_query_cmd.proofs.known_laws.known_networks_are_the_bests.Goals as goal

rows_of_ports : (number : ℕ) (ports : List Port) → flat_map direct_network_row (owns_in_words number ports) ≡ flat_map port_row ports
rows_of_ports number [] = refl
rows_of_ports number (p ∷ ports) = ap (λ t. port_row p ++ t) (rows_of_ports (number + 1) ports)

json_of_ports : (number : ℕ) (ports : List Port) → flat_map direct_network_json (owns_in_words number ports) ≡ flat_map port_json ports
json_of_ports number [] = refl
json_of_ports number (p ∷ ports) = ap (λ t. port_json p ++ t) (json_of_ports (number + 1) ports)

many_ports : (number : ℕ) (ports : List Port) → length (owns_in_words number ports) ≡ length ports
many_ports number [] = refl
many_ports number (p ∷ ports) = ap (λ n. suc n) (many_ports (number + 1) ports)

rows_of_bests : (listed : List AdvertisedNetwork) → flat_map known_network_row (map network_in_words listed) ≡ flat_map network_row listed
rows_of_bests [] = refl
rows_of_bests (b ∷ listed) = ap (λ t. network_row b ++ t) (rows_of_bests listed)

json_of_bests : (listed : List AdvertisedNetwork) → flat_map known_network_json (map network_in_words listed) ≡ flat_map network_json listed
json_of_bests [] = refl
json_of_bests (b ∷ listed) = ap (λ t. network_json b ++ t) (json_of_bests listed)

table_is : (place : List ℕ) (ports : List Port) (listed : List AdvertisedNetwork) → known_networks_table place (owns_in_words 1 ports) (map network_in_words listed)
    ≡ codes "network   hops  ticks  by\n" ++ (flat_map port_row ports ++ (flat_map network_row listed ++ written_in (count_with_noun (length ports + length listed) (codes "1 network") (codes " networks")) place))
table_is place ports listed = λ i.
    codes "network   hops  ticks  by\n" ++ (rows_of_ports 1 ports i ++ (rows_of_bests listed i
    ++ written_in (count_with_noun (many_ports 1 ports i + length-map listed network_in_words i) (codes "1 network") (codes " networks")) place))

pub returns : goal.returns
returns c true place ports routes services now text listed t is =
    (λ i. flat_map direct_network_json (c.own_networks_are_read_back.ensures.networks ports routes services now text t i) ++ flat_map known_network_json (c.bests_are_read_back.ensures.networks ports routes services now text listed t is i))
    ∙ (λ i. json_of_ports 1 ports i ++ json_of_bests listed i)
returns c false place ports routes services now text listed t is =
    (λ i. known_networks_table place (c.own_networks_are_read_back.ensures.networks ports routes services now text t i) (c.bests_are_read_back.ensures.networks ports routes services now text listed t is i))
    ∙ table_is place ports listed
