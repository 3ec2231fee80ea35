-- The lines that `show` prints.
use Rattle.std.specs.Prelude.{ℕ, Bool, ◌&&◌, List, [], ◌∷◌, ◌++◌, length, codes, nat_le, ◌==◌, not, if◌then◌else◌}
use Rattle.std.specs.List.{before_first, flat_map}
use Rattle.std.specs.Fmt.{decimal}
use Rattle.std.specs.Int.{w16, w32, to_be_bytes}
use Rattle.hex.specs.Hex.{encode_lower}
use Rattle.ipx_wire.specs.declared.address.Address.{Address}
use Rattle.ipx_wire.specs.declared.spx.packet.SpxHeader.{SpxHeader}
use Rattle.ipx_wire.specs.Ipx.{PacketView}
use Rattle.ipx_control.specs.declared.rip.packet.RipEntry.{RipEntry}
use Rattle.ipx_control.specs.declared.sap.packet.ServiceEntry.{ServiceEntry}
use Rattle.ipx_control.specs.Rip as rip
use Rattle.ipx_control.specs.Sap as sap
use Rattle.ipx_inspect.specs.Line.{control_fault_text, fault_text, spx_fault_text}
use Rattle.ipx_inspect.specs.Decoded.{ContentsView, Plain, OfSpx, OfRip, OfSap, DecodedView, NoPacket, NoSpx, NoControl, Holds}

-- a network in 8 hex digits, a node in 12 and a socket in 4
abbrev pub address_text : Address → List ℕ
address_text a =
    encode_lower (to_be_bytes w32 a.network.0) ++ (codes " " ++ (encode_lower a.node.0
    ++ (codes " " ++ encode_lower (to_be_bytes w16 a.socket.0))))

-- the three lines of a packet's header
abbrev pub header_lines : PacketView → List ℕ
header_lines d =
    codes "ipx hops " ++ (decimal d.header.hops ++ (codes " kind " ++ (decimal d.header.kind
    ++ (codes " body " ++ (decimal (length d.body) ++ (codes "\nto " ++ (address_text d.header.to
    ++ (codes "\nfrom " ++ (address_text d.header.from ++ 10 ∷ [])))))))))

abbrev pub bit_text : Bool → List ℕ
bit_text bit = if bit then codes "1" else codes "0"

abbrev pub control_text : SpxHeader → List ℕ
control_text h =
    codes "system " ++ (bit_text h.system ++ (codes " wants " ++ (bit_text h.wants_ack
    ++ (codes " last " ++ bit_text h.last))))

-- a 16-bit number of an SPX packet in 4 hex digits
abbrev pub word_text : ℕ → List ℕ
word_text n = encode_lower (to_be_bytes w16 n)

-- the connection ids, source and destination
abbrev pub ids_text : SpxHeader → List ℕ
ids_text h = codes "from " ++ (word_text h.from_id ++ (codes " to " ++ word_text h.to_id))

-- sequence number, acknowledgement and allocation
abbrev pub counts_text : SpxHeader → List ℕ
counts_text h =
    codes "seq " ++ (word_text h.seq ++ (codes " ack " ++ (word_text h.ack
    ++ (codes " limit " ++ word_text h.limit))))

-- an SPX packet; its datastream type in 2 hex digits
abbrev pub spx_line : SpxHeader → List ℕ → List ℕ
spx_line h payload =
    codes "spx " ++ (control_text h ++ (codes " stream " ++ (encode_lower (h.stream ∷ [])
    ++ (codes " " ++ (ids_text h ++ (codes " " ++ (counts_text h
    ++ (codes " body " ++ (decimal (length payload) ++ 10 ∷ [])))))))))

-- 8 hex digits, and hops and ticks in decimal
abbrev pub rip_entry_line : RipEntry → List ℕ
rip_entry_line e =
    codes "net " ++ (encode_lower (to_be_bytes w32 e.network.0)
    ++ (codes " hops " ++ (decimal e.hops ++ (codes " ticks " ++ (decimal e.ticks ++ 10 ∷ [])))))

abbrev pub rip_lines : rip.RipView → List ℕ
rip_lines (rip.Request entries) =
    codes "rip request " ++ (decimal (length entries)
    ++ (codes "\n" ++ flat_map rip_entry_line entries))
rip_lines (rip.Response entries) =
    codes "rip response " ++ (decimal (length entries)
    ++ (codes "\n" ++ flat_map rip_entry_line entries))

-- a byte of a name: as it is if it is a printing ASCII character other than the blank and the backslash;
-- otherwise a backslash, an x and its two hex digits
abbrev pub name_byte : ℕ → List ℕ
name_byte b =
    if (nat_le 0x21 b && nat_le b 0x7e) && not (b == 0x5c) then b ∷ []
    else 0x5c ∷ 0x78 ∷ encode_lower (b ∷ [])

-- a name is what precedes its first zero byte; an empty one prints as `-`
abbrev pub name_text : List ℕ → List ℕ
name_text name =
    if length (before_first (λ b. b == 0) name) == 0 then codes "-"
    else flat_map name_byte (before_first (λ b. b == 0) name)

-- its type in 4 hex digits, its name, its address, and hops in decimal
abbrev pub service_line : ServiceEntry → List ℕ
service_line e =
    codes "service " ++ (encode_lower (to_be_bytes w16 e.kind) ++ (codes " " ++ (name_text e.name
    ++ (codes " " ++ (address_text e.at ++ (codes " hops " ++ (decimal e.hops ++ 10 ∷ [])))))))

abbrev pub reach : Bool → List ℕ
reach nearest = if nearest then codes "nearest" else codes "general"

abbrev pub sap_lines : sap.SapView → List ℕ
sap_lines (sap.Query nearest kind) =
    codes "sap " ++ (reach nearest ++ (codes " query "
    ++ (encode_lower (to_be_bytes w16 kind) ++ 10 ∷ [])))
sap_lines (sap.Response nearest services) =
    codes "sap " ++ (reach nearest ++ (codes " response " ++ (decimal (length services)
    ++ (codes "\n" ++ flat_map service_line services))))

abbrev pub contents_lines : ContentsView → List ℕ
contents_lines Plain = []
contents_lines (OfSpx h payload) = spx_line h payload
contents_lines (OfRip m) = rip_lines m
contents_lines (OfSap m) = sap_lines m

-- the header and the contents of the body; or the fault, on one line
abbrev pub reading_lines : DecodedView → List ℕ
reading_lines (NoPacket f) = codes "refused " ++ (fault_text f ++ 10 ∷ [])
reading_lines (NoSpx f) = codes "refused " ++ (spx_fault_text f ++ 10 ∷ [])
reading_lines (NoControl f) = codes "refused " ++ (control_fault_text f ++ 10 ∷ [])
reading_lines (Holds d c) = header_lines d ++ contents_lines c

abbrev pub reading_status : DecodedView → ℕ
reading_status (NoPacket f) = 1
reading_status (NoSpx f) = 1
reading_status (NoControl f) = 1
reading_status (Holds d c) = 0
