-- What an operator is shown of the answers of routers: a table, or a line of JSON for each. Defined by this
-- project. The entry points are `networks_text` and `services_text`.
use Rattle.std.specs.Prelude.{ℕ, ◌-◌, ◌/◌, ◌%◌, ◌==◌, ◌&&◌, List, [], ◌∷◌, ◌++◌, Bool, codes, filter, if◌then◌else◌, length, map, max, nat_le, not}
use Rattle.std.specs.Fmt.{decimal}
use Rattle.std.specs.Int.{w16, w32, to_be_bytes}
use Rattle.std.specs.List.{before_first, flat_map}
use Rattle.std.specs.List.{repeat}
use Rattle.std.specs.Str.{bytes_eq}
use Rattle.hex.specs.Hex.{encode_lower}
use Rattle.ipx_wire.specs.declared.address.Address.{Address}
use Rattle.ipx_wire.specs.declared.address.Network.{Network}
use Rattle.ipx_wire.specs.declared.address.Node.{Node}
use Rattle.ipx_wire.specs.declared.address.Socket.{Socket}
use Rattle.ipx_tables.specs.declared.route.RouteMetric.{RouteMetric}
use Rattle.ipx_tables.specs.declared.service.ServiceKey.{ServiceKey}
use Rattle.ipx_tables.specs.declared.service.ServiceMetric.{ServiceMetric}
use Rattle.ipx_tables.specs.declared.source.Source.{Source}
use Rattle.ipx_inspect.specs.ShowLine.{name_text}
use Rattle.ipx_query.specs.declared.queried_router.QueriedRouter.{QueriedRouter}
use Rattle.ipx_query_cmd.specs.declared.answer_times.AnswerTime.{AnswerTime}

-- a network or service, the router that advertised it, and its distance
abbrev pub AdvertisedNetwork : Type 0
AdvertisedNetwork = Network × Source × RouteMetric

abbrev pub AdvertisedService : Type 0
AdvertisedService = ServiceKey × Source × ServiceMetric

-- ---- columns and digits

-- a text, aligned right or left in a column of this width
abbrev pub at_right : ℕ → List ℕ → List ℕ
at_right width text = repeat (width - length text) (codes " ") ++ text

abbrev pub at_left : ℕ → List ℕ → List ℕ
at_left width text = text ++ repeat (width - length text) (codes " ")

abbrev pub network_digits : Network → List ℕ
network_digits network = encode_lower (to_be_bytes w32 network.0)

abbrev pub node_digits : Node → List ℕ
node_digits node = encode_lower node.0

abbrev pub socket_digits : Socket → List ℕ
socket_digits socket = encode_lower (to_be_bytes w16 socket.0)

abbrev pub type_digits : ℕ → List ℕ
type_digits kind = encode_lower (to_be_bytes w16 kind)

-- ---- after a table: how much it has, and which routers answered

-- a time in tenths of a millisecond
abbrev pub tenths_text : ℕ → List ℕ
tenths_text tenths = decimal (tenths / 10) ++ (codes "." ++ (decimal (tenths % 10) ++ codes " ms"))

abbrev pub answered_text : AnswerTime → List ℕ
answered_text a =
    codes ", " ++ (node_digits a.node ++ (codes " answered in " ++ tenths_text a.tenths))

abbrev pub count_with_noun : ℕ → List ℕ → List ℕ → List ℕ
count_with_noun count one many =
    if count == 1 then one else (decimal count ++ many)

abbrev pub after_text : List ℕ → List AnswerTime → List ℕ
after_text count answers = count ++ (flat_map answered_text answers ++ 10 ∷ [])

-- the routers that answered, in their order
abbrev pub answering_nodes : List QueriedRouter → List Node
answering_nodes routers = map (λ r. r.node) (filter (λ r. r.answered) routers)

-- ---- networks

abbrev pub network_row : AdvertisedNetwork → List ℕ
network_row told =
    network_digits told.0 ++ (codes "  " ++ (at_right 4 (decimal told.2.hops) ++ (codes "  "
    ++ (at_right 5 (decimal told.2.ticks) ++ (codes "  "
    ++ (node_digits told.1.neighbour ++ codes "\n"))))))

abbrev pub network_json : AdvertisedNetwork → List ℕ
network_json told =
    codes "{\"network\":\"" ++ (network_digits told.0
    ++ (codes "\",\"hops\":" ++ (decimal told.2.hops ++ (codes ",\"ticks\":"
    ++ (decimal told.2.ticks ++ (codes ",\"by\":\"" ++ (node_digits told.1.neighbour
    ++ codes "\"}\n")))))))

abbrev pub networks_table : List AdvertisedNetwork → List AnswerTime → List ℕ
networks_table listed answers =
    codes "network   hops  ticks  by\n" ++ (flat_map network_row listed
    ++ after_text (count_with_noun (length listed) (codes "1 network") (codes " networks")) answers)

abbrev pub networks_text : Bool → List AdvertisedNetwork → List AnswerTime → List ℕ
networks_text json listed answers =
    if json then flat_map network_json listed else networks_table listed answers

-- ---- services

-- what a well-known type of service is, by its digits: nothing if it is not one of these. Novell published them
abbrev pub type_name : List ℕ → List ℕ
type_name digits =
    if bytes_eq digits (codes "0003") then codes "print queue"
    else (if bytes_eq digits (codes "0004") then codes "file server"
    else (if bytes_eq digits (codes "0005") then codes "job server"
    else (if bytes_eq digits (codes "0006") then codes "gateway"
    else (if bytes_eq digits (codes "0007") then codes "print server"
    else (if bytes_eq digits (codes "0009") then codes "archive server"
    else (if bytes_eq digits (codes "0024") then codes "remote bridge"
    else (if bytes_eq digits (codes "0047") then codes "advertising print server"
    else (if bytes_eq digits (codes "0107") then codes "remote console"
    else (if bytes_eq digits (codes "026b") then codes "time synchronization"
    else (if bytes_eq digits (codes "0278") then codes "directory tree"
    else []))))))))))

-- a type as a table has it: its digits, and then its name if it has one
abbrev pub type_text : List ℕ → List ℕ
type_text digits =
    if length (type_name digits) == 0 then digits else digits ++ (codes " " ++ type_name digits)

-- a type as JSON has it, by its digits
abbrev pub type_json : List ℕ → List ℕ
type_json digits =
    codes "\"type\":\"" ++ (digits ++ (codes "\",\"type_name\":\"" ++ (type_name digits ++ codes "\"")))

-- the width of a column: that of its longest text, and at least four, that of its heading
abbrev pub widest : {X : Type 0} → (X → List ℕ) → List X → ℕ
widest text [] = 4
widest text (x ∷ xs) = max (length (text x)) (widest text xs)

-- the column of the type, and that of the name
abbrev pub kind_of_told : AdvertisedService → List ℕ
kind_of_told told = type_text (type_digits told.0.kind)

abbrev pub name_of_told : AdvertisedService → List ℕ
name_of_told told = name_text told.0.name

abbrev pub place_columns : Address → List ℕ
place_columns at =
    network_digits at.network ++ (codes "  " ++ (node_digits at.node
    ++ (codes "  " ++ socket_digits at.socket)))

-- the widths of these two columns come first
abbrev pub service_head : ℕ → ℕ → List ℕ
service_head kinds names =
    at_left kinds (codes "type") ++ (codes "  " ++ (at_left names (codes "name")
    ++ codes "  network   node          socket  hops  by\n"))

abbrev pub service_row : ℕ → ℕ → AdvertisedService → List ℕ
service_row kinds names told =
    at_left kinds (kind_of_told told) ++ (codes "  " ++ (at_left names (name_of_told told)
    ++ (codes "  " ++ (place_columns told.2.at ++ (codes "    "
    ++ (at_right 4 (decimal told.2.hops) ++ (codes "  "
    ++ (node_digits told.1.neighbour ++ codes "\n"))))))))

-- a byte of a name within JSON quotes: as in `name_text`, with a backslash before each quote and backslash
abbrev pub json_byte : ℕ → List ℕ
json_byte b =
    if b == 0x22 then 0x5c ∷ 0x22 ∷ []
    else (if (nat_le 0x21 b && nat_le b 0x7e) && not (b == 0x5c) then b ∷ []
    else 0x5c ∷ 0x5c ∷ 0x78 ∷ encode_lower (b ∷ []))

abbrev pub json_name : List ℕ → List ℕ
json_name name =
    if length (before_first (λ b. b == 0) name) == 0 then codes "-"
    else flat_map json_byte (before_first (λ b. b == 0) name)

abbrev pub place_json : Address → List ℕ
place_json at =
    codes "\"network\":\"" ++ (network_digits at.network ++ (codes "\",\"node\":\""
    ++ (node_digits at.node ++ (codes "\",\"socket\":\""
    ++ (socket_digits at.socket ++ codes "\"")))))

abbrev pub service_json : AdvertisedService → List ℕ
service_json told =
    codes "{" ++ (type_json (type_digits told.0.kind) ++ (codes ",\"name\":\""
    ++ (json_name told.0.name ++ (codes "\"," ++ (place_json told.2.at ++ (codes ",\"hops\":"
    ++ (decimal told.2.hops ++ (codes ",\"by\":\"" ++ (node_digits told.1.neighbour
    ++ codes "\"}\n")))))))))

abbrev pub services_table : List AdvertisedService → List AnswerTime → List ℕ
services_table listed answers =
    service_head (widest kind_of_told listed) (widest name_of_told listed)
    ++ (flat_map (service_row (widest kind_of_told listed) (widest name_of_told listed)) listed
    ++ after_text (count_with_noun (length listed) (codes "1 service") (codes " services")) answers)

abbrev pub services_text : Bool → List AdvertisedService → List AnswerTime → List ℕ
services_text json listed answers =
    if json then flat_map service_json listed else services_table listed answers
