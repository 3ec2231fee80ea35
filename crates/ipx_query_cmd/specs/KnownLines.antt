-- What an operator is shown of a router's table file. Defined by this project. The entry points are
-- `known_networks_text` and `known_services_text`.
use Rattle.std.specs.Prelude.{ℕ, ◌+◌, ◌==◌, ◌||◌, List, [], ◌∷◌, ◌++◌, Bool, codes, filter, if◌then◌else◌, length}
use Rattle.std.specs.List.{flat_map}
use Rattle.std.specs.Str.{bytes_eq}
use Rattle.ipx_router.specs.declared.port.Port.{Port}
use Rattle.ipx_config.specs.Checked.{shown_text}
use Rattle.ipx_table_dump.specs.TableParts.{OwnSpelled, own_networks_read}
use Rattle.ipx_table_dump.specs.TableRead.{NetworkSpelled, ServiceSpelled, networks_read, services_read}
use Rattle.ipx_query_cmd.specs.OperatorLines.{AdvertisedNetwork, at_left, at_right, json_byte, network_digits, network_json, network_row, service_head, count_with_noun, type_digits, type_json, type_text, widest}

-- the last line: how many there are, and in which file
abbrev pub written_in : List ℕ → List ℕ → List ℕ
written_in count place = count ++ (codes ", by " ++ (shown_text place ++ 10 ∷ []))

-- ---- networks

-- the network of a port of the router, which is directly connected and advertised by nobody
abbrev pub direct_network_row : OwnSpelled → List ℕ
direct_network_row own = own.network ++ codes "     0      0  -\n"

abbrev pub known_network_row : NetworkSpelled → List ℕ
known_network_row w =
    w.network ++ (codes "  " ++ (at_right 4 w.hops ++ (codes "  " ++ (at_right 5 w.ticks
    ++ (codes "  " ++ (w.next ++ codes "\n"))))))

abbrev pub direct_network_json : OwnSpelled → List ℕ
direct_network_json own =
    codes "{\"network\":\"" ++ (own.network ++ codes "\",\"hops\":0,\"ticks\":0,\"by\":\"-\"}\n")

abbrev pub known_network_json : NetworkSpelled → List ℕ
known_network_json w =
    codes "{\"network\":\"" ++ (w.network ++ (codes "\",\"hops\":" ++ (w.hops
    ++ (codes ",\"ticks\":" ++ (w.ticks ++ (codes ",\"by\":\"" ++ (w.next
    ++ codes "\"}\n")))))))

abbrev pub known_networks_table : List ℕ → List OwnSpelled → List NetworkSpelled → List ℕ
known_networks_table place owns bests =
    codes "network   hops  ticks  by\n" ++ (flat_map direct_network_row owns
    ++ (flat_map known_network_row bests
    ++ written_in (count_with_noun (length owns + length bests) (codes "1 network") (codes " networks")) place))

-- the networks of its ports, and the best route of each network that neighbours advertised, by the text of
-- its table file at this path
abbrev pub known_networks_text : Bool → List ℕ → List ℕ → List ℕ
known_networks_text json place text =
    if json
    then flat_map direct_network_json (own_networks_read text) ++ flat_map known_network_json (networks_read text)
    else known_networks_table place (own_networks_read text) (networks_read text)

-- the network of a port, as it is printed
abbrev pub port_row : Port → List ℕ
port_row p = network_digits p.network ++ codes "     0      0  -\n"

abbrev pub port_json : Port → List ℕ
port_json p =
    codes "{\"network\":\"" ++ (network_digits p.network ++ codes "\",\"hops\":0,\"ticks\":0,\"by\":\"-\"}\n")

-- what is printed of a router with these ports, if these are the best routes that neighbours advertised: each
-- is printed as a host prints an answer
abbrev pub router_networks_text : Bool → List ℕ → List Port → List AdvertisedNetwork → List ℕ
router_networks_text json place ports listed =
    if json then flat_map port_json ports ++ flat_map network_json listed
    else codes "network   hops  ticks  by\n" ++ (flat_map port_row ports
    ++ (flat_map network_row listed
    ++ written_in (count_with_noun (length ports + length listed) (codes "1 network") (codes " networks")) place))

-- ---- services

-- those of a type, or of all
abbrev pub services_of_type : ℕ → List ServiceSpelled → List ServiceSpelled
services_of_type kind services =
    filter (λ s. (kind == 0xffff) || bytes_eq s.kind (type_digits kind)) services

abbrev pub kind_of_known : ServiceSpelled → List ℕ
kind_of_known s = type_text s.kind

abbrev pub name_of_known : ServiceSpelled → List ℕ
name_of_known s = s.name

abbrev pub known_place_columns : ServiceSpelled → List ℕ
known_place_columns s = s.network ++ (codes "  " ++ (s.node ++ (codes "  " ++ s.socket)))

abbrev pub known_service_row : ℕ → ℕ → ServiceSpelled → List ℕ
known_service_row kinds names s =
    at_left kinds (kind_of_known s) ++ (codes "  " ++ (at_left names (name_of_known s)
    ++ (codes "  " ++ (known_place_columns s
    ++ (codes "    " ++ (at_right 4 s.hops ++ (codes "  " ++ (s.next ++ codes "\n"))))))))

-- a byte of a name that already has the form of `name_text`, within JSON quotes
abbrev pub known_json_byte : ℕ → List ℕ
known_json_byte b = if b == 0x5c then 0x5c ∷ 0x5c ∷ [] else json_byte b

abbrev pub known_place_json : ServiceSpelled → List ℕ
known_place_json s =
    codes "\"network\":\"" ++ (s.network ++ (codes "\",\"node\":\"" ++ (s.node
    ++ (codes "\",\"socket\":\"" ++ (s.socket ++ codes "\"")))))

abbrev pub known_service_json : ServiceSpelled → List ℕ
known_service_json s =
    codes "{" ++ (type_json s.kind ++ (codes ",\"name\":\"" ++ (flat_map known_json_byte s.name
    ++ (codes "\"," ++ (known_place_json s ++ (codes ",\"hops\":" ++ (s.hops
    ++ (codes ",\"by\":\"" ++ (s.next ++ codes "\"}\n")))))))))

abbrev pub known_services_table : List ℕ → List ServiceSpelled → List ℕ
known_services_table place services =
    service_head (widest kind_of_known services) (widest name_of_known services)
    ++ (flat_map (known_service_row (widest kind_of_known services) (widest name_of_known services)) services
    ++ written_in (count_with_noun (length services) (codes "1 service") (codes " services")) place)

-- the best offer of each service of a type that neighbours advertised
abbrev pub known_services_text : Bool → List ℕ → ℕ → List ℕ → List ℕ
known_services_text json place kind text =
    if json then flat_map known_service_json (services_of_type kind (services_read text))
    else known_services_table place (services_of_type kind (services_read text))
