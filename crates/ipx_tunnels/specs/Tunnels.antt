-- Ethernet frames in UDP datagrams: by VXLAN (RFC 7348), and by L2TPv3 over UDP with a static session
-- (RFC 3931, RFC 4719). What is sent before a frame, and which datagrams carry one.
use Rattle.std.specs.Prelude.{◌≡◌, ◌<◌, ◌≤◌, ⊤, ℕ, ◌+◌, ◌%◌, ◌^◌, List, [], ◌∷◌, ◌++◌, length, take, drop, slice_index, Bool, if◌then◌else◌}
use Rattle.byteorder.specs.Endian.{big_bytes}
use Rattle.ipx_wire.specs.Ipx.{number}
use Rattle.ipx_tunnels.specs.declared.tunnel.Cookie.{Cookie}
use Rattle.ipx_tunnels.specs.declared.tunnel.Cookie.TheVariants.{Absent, Short, Long}
use Rattle.ipx_tunnels.specs.declared.tunnel.Session.{Session}
use Rattle.ipx_tunnels.specs.declared.tunnel.Tunnel.{Tunnel}
use Rattle.ipx_tunnels.specs.declared.tunnel.Tunnel.TheVariants.{Plain, Vxlan, L2tpv3}
use Rattle.ipx_tunnels.specs.declared.tunnel.Vni.{Vni}

-- the bytes of a cookie: 0, 4 or 8
abbrev pub cookie_bytes : Cookie → List ℕ
cookie_bytes Absent = []
cookie_bytes (Short bytes) = bytes
cookie_bytes (Long bytes) = bytes

-- what is sent of the default sublayer: four zeros, which say that there is no sequence number
abbrev pub sublayer_bytes : Bool → List ℕ
sublayer_bytes sublayer = if sublayer then 0 ∷ 0 ∷ 0 ∷ 0 ∷ [] else []

-- what is sent before a frame. VXLAN: 08, three zeros, the network's number in three bytes, a zero. L2TPv3: a
-- zero, the version 3, two zeros, the session and the cookie of the other side, the sublayer
abbrev pub header_of : Tunnel → List ℕ
header_of Plain = []
header_of (Vxlan vni) = (8 ∷ 0 ∷ 0 ∷ 0 ∷ []) ++ vni.0 ++ 0 ∷ []
header_of (L2tpv3 s) = (0 ∷ 3 ∷ 0 ∷ 0 ∷ []) ++ big_bytes 4 s.peer_id ++ cookie_bytes s.peer_cookie ++ sublayer_bytes s.sublayer

-- the datagram that carries a frame
abbrev pub datagram_of : Tunnel → List ℕ → List ℕ
datagram_of tunnel frame = header_of tunnel ++ frame

-- the size of the header that a session receives
abbrev pub session_size : Session → ℕ
session_size s = 8 + length (cookie_bytes s.cookie) + length (sublayer_bytes s.sublayer)

-- the size of the header that is received
abbrev pub stripped_size : Tunnel → ℕ
stripped_size Plain = 0
stripped_size (Vxlan vni) = 8
stripped_size (L2tpv3 s) = session_size s

-- the bytes carry the frame in this VXLAN network. The first byte is 08, so that it is plain VXLAN. Bytes 1 to 3
-- and 7 may have any value
pub record IsVxlan (vni : Vni) (bytes frame : List ℕ) : Type 0 where
  pub whole : 8 ≤ length bytes
  pub flags : slice_index bytes 0 ≡ 8
  pub network : take 3 (drop 4 bytes) ≡ vni.0
  pub held : drop 8 bytes ≡ frame

-- the bytes carry the frame in this L2TPv3 session. The highest bit of the first byte is 0, so that it is data,
-- and the version is 3. Session and cookie are its own. The other bits, bytes 2 and 3, and the sublayer may have
-- any value
pub record IsL2tpv3 (s : Session) (bytes frame : List ℕ) : Type 0 where
  pub whole : session_size s ≤ length bytes
  pub data_bit : slice_index bytes 0 < 128
  pub version : slice_index bytes 1 % 16 ≡ 3
  pub session : number 4 4 bytes ≡ s.id
  pub cookie : take (length (cookie_bytes s.cookie)) (drop 8 bytes) ≡ cookie_bytes s.cookie
  pub held : drop (session_size s) bytes ≡ frame

-- the datagram carries the frame in the tunnel
abbrev pub IsInTunnel : Tunnel → List ℕ → List ℕ → Type 0
IsInTunnel Plain bytes frame = bytes ≡ frame
IsInTunnel (Vxlan vni) bytes frame = IsVxlan vni bytes frame
IsInTunnel (L2tpv3 s) bytes frame = IsL2tpv3 s bytes frame

-- the same tunnel, as the other side has it
abbrev pub peer_session : Session → Session
peer_session s = record { id = s.peer_id; peer_id = s.id; cookie = s.peer_cookie; peer_cookie = s.cookie; sublayer = s.sublayer }

abbrev pub peer_of : Tunnel → Tunnel
peer_of Plain = Plain
peer_of (Vxlan vni) = Vxlan vni
peer_of (L2tpv3 s) = L2tpv3 (peer_session s)

-- the numbers and bytes of a tunnel fit the header, as those of each value of its type do
abbrev pub FitsHeader : Tunnel → Type 0
FitsHeader Plain = ⊤
FitsHeader (Vxlan vni) = length vni.0 ≡ 3
FitsHeader (L2tpv3 s) = s.peer_id < 2 ^ 32
