-- The values of the keys of an Ethernet port. Defined by this project.
use Rattle.std.specs.Prelude.{Vec, ◌≡◌, ℕ, ◌+◌, ◌*◌, ◌/◌, ◌==◌, ◌≤◌, List, [], ◌∷◌, ◌++◌, Bool, true, false, not, ◌&&◌, Option, Some, None, ◌⊎◌, codes, drop, length, nat_eq, slice_index, MatchOption}
use Rattle.std.specs.Cmp.Lexicographic.{pointwise}
use Rattle.std.specs.Global.{Global}
use Rattle.std.specs.Int.{w16, to_be_bytes}
use Rattle.std.specs.List.{list_any}
use Rattle.std.specs.Net.Addr.{ipv4_octets}
use Rattle.std.specs.Net.Grammar.{IsSocketV4Text}
use Rattle.std.specs.Net.Socket.{v4_ip, v4_port}
use Rattle.std.specs.Str.{bytes_eq}
use Rattle.std.specs.declared.net.socket_addr.SocketAddrV4.{SocketAddrV4}
use Rattle.toml.specs.Data.{Data, Items, no_items, item, as_array, as_bool, as_str}
use Rattle.ipx_ethernet.specs.Frame.{is_group}
use Rattle.ipx_ethernet.specs.declared.encapsulation.Encapsulation.{Encapsulation}
use Rattle.ipx_ethernet.specs.declared.encapsulation.Encapsulation.TheVariants.{Raw, Llc, Snap, EthernetII}
use Rattle.ipx_carrier.specs.Traces.{v4_at}
use Rattle.ipx_tunnels.specs.declared.tunnel.Tunnel.{Tunnel}
use Rattle.ipx_tunnels.specs.declared.tunnel.Tunnel.TheVariants.{Plain, Vxlan, L2tpv3}
use Rattle.ipx_tunnels.specs.Tunnels.{cookie_bytes}
use Rattle.ipx_wire.specs.AddressText.{spelled_node}
use Rattle.ipx_wire.specs.declared.address.Node.{Node}
use Rattle.ipx_config.specs.declared.site.RemotesConfig.{RemotesConfig}
use Rattle.ipx_config.specs.declared.site.RemotesConfig.TheVariants.{Listed, Learned}
use Rattle.ipx_config.specs.Values.{AreEach, IsIpAddress}

abbrev pub frame_word : Encapsulation → List ℕ
frame_word Raw = codes "802.3"
frame_word Llc = codes "802.2"
frame_word Snap = codes "snap"
frame_word EthernetII = codes "ethernet-ii"

-- a string that is the word of an encapsulation
abbrev pub IsEncapsulation : Data → Encapsulation → Type 0
IsEncapsulation d e = as_str d ≡ Some (frame_word e)

-- true or false
abbrev pub IsFlag : Data → Bool → Type 0
IsFlag d b = as_bool d ≡ Some b

-- a remote can be at a place: neither the IP address nor the UDP port is 0
abbrev pub is_somewhere : SocketAddrV4 → Bool
is_somewhere p = not (bytes_eq (ipv4_octets (v4_ip p)) (0 ∷ 0 ∷ 0 ∷ 0 ∷ [])) && not (v4_port p == 0)

-- two places are the same
abbrev pub is_same_place : SocketAddrV4 → SocketAddrV4 → Bool
is_same_place a b =
    pointwise nat_eq (ipv4_octets (v4_ip b)) (ipv4_octets (v4_ip a)) && (v4_port b == v4_port a)

-- no place is listed twice
abbrev pub are_places_distinct : List SocketAddrV4 → Bool
are_places_distinct [] = true
are_places_distinct (p ∷ ps) = not (list_any (is_same_place p) ps) && are_places_distinct ps

-- two places have the same IP address
abbrev pub is_same_ip : SocketAddrV4 → SocketAddrV4 → Bool
is_same_ip a b = pointwise nat_eq (ipv4_octets (v4_ip b)) (ipv4_octets (v4_ip a))

-- no IP address is listed twice
abbrev pub are_ips_distinct : List SocketAddrV4 → Bool
are_ips_distinct [] = true
are_ips_distinct (p ∷ ps) = not (list_any (is_same_ip p) ps) && are_ips_distinct ps

-- the remotes of a port can be told apart: by their places, in VXLAN by their IP addresses alone
abbrev pub are_remotes_distinct : Tunnel → List SocketAddrV4 → Bool
are_remotes_distinct Plain ends = are_places_distinct ends
are_remotes_distinct (Vxlan vni) ends = are_ips_distinct ends
are_remotes_distinct (L2tpv3 s) ends = are_places_distinct ends

-- an IP address, a colon and a UDP port, where a remote can be
abbrev pub WritesPlace : List ℕ → SocketAddrV4 → Type 0
WritesPlace text p = IsSocketV4Text text p × (is_somewhere p ≡ true)

-- a string that is such a text
abbrev pub IsPlace : Data → SocketAddrV4 → Type 0
IsPlace d p = (text : List ℕ) × (as_str d ≡ Some text) × WritesPlace text p

-- a string that is an IP address, for the usual UDP port there, if there is one
abbrev pub IsUsualPlace : Option ℕ → Data → SocketAddrV4 → Type 0
IsUsualPlace usual d p = (udp_port : ℕ) × (ip : List ℕ) × (usual ≡ Some udp_port)
    × IsIpAddress d ip × (p ≡ v4_at ip udp_port)

abbrev pub IsEthernetEnd : Option ℕ → Data → SocketAddrV4 → Type 0
IsEthernetEnd usual d p = IsPlace d p ⊎ IsUsualPlace usual d p

-- an array of them, 1 to 256
abbrev pub AreEthernetEnds : Option ℕ → Data → Vec SocketAddrV4 Global → Type 0
AreEthernetEnds usual d ends = (ds : Items) × (as_array d ≡ Some ds) × AreEach (IsEthernetEnd usual) ds ends.items
    × (1 ≤ length ends.items) × (length ends.items ≤ 256)

-- the UDP port of a tunnel if a file gives none (IANA)
abbrev pub usual_udp_port : Tunnel → Option ℕ
usual_udp_port Plain = None
usual_udp_port (Vxlan vni) = Some 4789
usual_udp_port (L2tpv3 s) = Some 1701

-- a port with this tunnel at this place of its own can have these remotes: none of them is its own place, and
-- they can be told apart
abbrev pub can_be_remotes : Tunnel → SocketAddrV4 → List SocketAddrV4 → Bool
can_be_remotes tunnel own ends = not (list_any (is_same_place own) ends) && are_remotes_distinct tunnel ends

-- an array of the places of the remotes of such a port
abbrev pub AreListedRemotes : Tunnel → SocketAddrV4 → Data → Vec SocketAddrV4 Global → Type 0
AreListedRemotes tunnel own d ends =
    AreEthernetEnds (usual_udp_port tunnel) d ends × (can_be_remotes tunnel own ends.items ≡ true)

-- an array of the string "any" alone
abbrev pub IsAny : Data → Type 0
IsAny d = (v : Data) × (as_array d ≡ Some (item v no_items)) × (as_str v ≡ Some (codes "any"))

-- a port with this tunnel can learn where its remote is: by L2TPv3 with a cookie of eight bytes. No other tunnel
-- has a header that is hard to guess
abbrev pub can_learn : Tunnel → Bool
can_learn Plain = false
can_learn (Vxlan vni) = false
can_learn (L2tpv3 s) = length (cookie_bytes s.cookie) == 8

-- the remotes of such a port: listed ones, or "any": one remote, whose place the port learns
abbrev pub AreRemotesOf : Tunnel → SocketAddrV4 → Data → RemotesConfig → Type 0
AreRemotesOf tunnel own d (Listed ends) = AreListedRemotes tunnel own d ends
AreRemotesOf tunnel own d Learned = IsAny d × (can_learn tunnel ≡ true)

-- digits in pairs, with a colon before each pair but the first
abbrev pub with_colons : List ℕ → List ℕ
with_colons [] = []
with_colons (a ∷ []) = a ∷ []
with_colons (a ∷ b ∷ []) = a ∷ b ∷ []
with_colons (a ∷ b ∷ c ∷ digits) = a ∷ b ∷ 58 ∷ with_colons (c ∷ digits)

-- an address that one station can have: no group address, and not zero
abbrev pub is_station : Node → Bool
is_station node = not (is_group node.0) && not (bytes_eq node.0 (0 ∷ 0 ∷ 0 ∷ 0 ∷ 0 ∷ 0 ∷ []))

-- a string of twelve hex digits with colons between the pairs: the address of a station
abbrev pub WritesStation : List ℕ → Node → Type 0
WritesStation text node = (digits : List ℕ) × (text ≡ with_colons digits)
    × (spelled_node digits ≡ Some node) × (is_station node ≡ true)

abbrev pub IsStation : Data → Node → Type 0
IsStation d node = (text : List ℕ) × (as_str d ≡ Some text) × WritesStation text node

-- the node of a port whose file gives none: its IP address followed by its UDP port. The two low bits of the
-- first byte mark it as locally administered and no group address
abbrev pub made_station : List ℕ → ℕ → Node
made_station ip udp_port = record {
  0 = (slice_index ip 0 / 4 * 4 + 2) ∷ (drop 1 ip ++ to_be_bytes w16 udp_port);
}

-- ---- relations for private functions

-- the place that a text gives, or that it gives none
abbrev pub ReadsPlace : List ℕ → Option SocketAddrV4 → Type 0
ReadsPlace text found = MatchOption found ((p : SocketAddrV4) → WritesPlace text p → ⊥) (WritesPlace text)

abbrev pub ReadsEthernetEnds : Option ℕ → Items → Option (Vec SocketAddrV4 Global) → Type 0
ReadsEthernetEnds usual ds found = MatchOption found ((ends : List SocketAddrV4) → AreEach (IsEthernetEnd usual) ds ends → ⊥)
    (λ v. AreEach (IsEthernetEnd usual) ds v.items)

-- the twelve digits of a text, or that it has none
abbrev pub ReadsDigits : List ℕ → Option (List ℕ) → Type 0
ReadsDigits text found = MatchOption found
    ((digits : List ℕ) → length digits ≡ 12 → text ≡ with_colons digits → ⊥)
    (λ digits. text ≡ with_colons digits)

-- the station address that a text gives, or that it gives none
abbrev pub ReadsStation : List ℕ → Option Node → Type 0
ReadsStation text found = MatchOption found ((n : Node) → WritesStation text n → ⊥) (WritesStation text)
