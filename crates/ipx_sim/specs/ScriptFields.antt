-- How the fields of a script's lines are read. Defined by this project.
use Rattle.std.specs.Prelude.{ℕ, Bool, [], ◌==◌, ◌&&◌, ◌||◌, nat_lt, nat_le, if◌then◌else◌, List, length, map, codes, Option, Some, None, option_map}
use Rattle.std.specs.Borrow.{Bor}
use Rattle.std.specs.Char.{is_ascii_digit, is_ascii_lowercase, is_digit}
use Rattle.std.specs.List.{list_all, slice_split}
use Rattle.std.specs.Result.{result_ok}
use Rattle.std.specs.Str.{bytes_eq}
use Rattle.std.specs.Str.Parse.{digits_value}
use Rattle.hex.specs.Hex.{decode_of}
use Rattle.ipx_wire.specs.AddressText.{spelled_node, spelled_socket}
use Rattle.ipx_wire.specs.Assigned.{all_networks, local_network}
use Rattle.ipx_wire.specs.declared.address.Address.{Address}
use Rattle.ipx_wire.specs.declared.address.Network.{Network}
use Rattle.ipx_wire.specs.declared.address.Node.{Node}
use Rattle.ipx_wire.specs.declared.address.Socket.{Socket}
use Rattle.spx_link.specs.Limits.{most_units}

-- a line of only blanks
abbrev pub is_blank_line : List ℕ → Bool
is_blank_line line = list_all (λ b. b == 32) line

-- the fields of a line: joined by one blank each they are the line, and none holds a blank
abbrev pub line_fields : List ℕ → List (List ℕ)
line_fields line = slice_split (λ b. b == 32) line

-- the same, apart from where they are in memory
abbrev pub fields_view : List (Bor (List ℕ)) → List (List ℕ)
fields_view fields = map (λ f. f.now) fields

-- a name has 1 to 16 of `a` to `z` and digits
abbrev pub is_name_byte : ℕ → Bool
is_name_byte b = is_ascii_lowercase b || is_ascii_digit b

abbrev pub is_name_text : List ℕ → Bool
is_name_text name =
    list_all is_name_byte name && (nat_lt 0 (length name) && nat_le (length name) 16)

-- ---- numbers

-- a number between these two
abbrev pub within : ℕ → ℕ → Option ℕ → Option ℕ
within low high None = None
within low high (Some n) = if nat_le low n && nat_le n high then Some n else None

-- the value of digits of a radix, if all are digits and it is at most `most`
abbrev pub numeral_up_to : ℕ → ℕ → List ℕ → Option ℕ
numeral_up_to most radix digits =
    if list_all (λ c. is_digit c radix) digits && nat_le (digits_value radix digits) most
    then Some (digits_value radix digits) else None

-- a number in decimal digits only, at most 1,000,000,000
abbrev pub number_in : List ℕ → Option ℕ
number_in field = if length field == 0 then None else numeral_up_to 1000000000 10 field

-- a number of 16 bits
abbrev pub short_in : List ℕ → Option ℕ
short_in field = within 0 65535 (number_in field)

-- buffers of a link: 1 to 8,192
abbrev pub buffers_field : List ℕ → Option ℕ
buffers_field field = within 1 most_units (short_in field)

-- ---- addresses

-- a network, in 1 to 8 hex digits
abbrev pub network_in : List ℕ → Option Network
network_in field =
    if nat_lt 0 (length field) && nat_le (length field) 8
    then option_map (λ n. record { 0 = n }) (numeral_up_to 0xffff_ffff 16 field) else None

-- a network that a host or a port may have: neither 0 nor ffffffff
abbrev pub own : Option Network → Option Network
own None = None
own (Some n) = if (n.0 == local_network) || (n.0 == all_networks) then None else Some n

abbrev pub own_network_in : List ℕ → Option Network
own_network_in field = own (network_in field)

-- a network, a node in 12 hex digits and a socket in 4
abbrev pub parse_address : Option Network → Option Node → Option Socket → Option Address
parse_address (Some network) (Some host) (Some socket) =
    Some (record { network = network; node = host; socket = socket })
parse_address (Some network) (Some host) None = None
parse_address (Some network) None to = None
parse_address None host to = None

abbrev pub address_in : List ℕ → List ℕ → List ℕ → Option Address
address_in network node socket =
    parse_address (network_in network) (spelled_node node) (spelled_socket socket)

-- ---- messages

-- a datastream type, in 2 hex digits
abbrev pub stream_in : List ℕ → Option ℕ
stream_in field = if length field == 2 then numeral_up_to 0xff 16 field else None

-- bytes in hex, `-` for none
abbrev pub bytes_in : List ℕ → Option (List ℕ)
bytes_in field =
    if length field == 0 then None
    else if bytes_eq field (codes "-") then Some [] else result_ok (decode_of field)
