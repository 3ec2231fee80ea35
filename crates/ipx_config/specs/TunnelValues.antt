-- The values of the keys for the tunnel of an Ethernet port. Defined by this project.
use Rattle.std.specs.Prelude.{◌≡◌, ℕ, List, [], Option, Some, None, codes, MatchOption}
use Rattle.toml.specs.Data.{Data, as_str}
use Rattle.byteorder.specs.Endian.{big_bytes}
use Rattle.ipx_tunnels.specs.declared.tunnel.Cookie.{Cookie}
use Rattle.ipx_tunnels.specs.declared.tunnel.Cookie.TheVariants.{Absent, Short, Long}
use Rattle.ipx_tunnels.specs.declared.tunnel.Tunnel.{Tunnel}
use Rattle.ipx_tunnels.specs.declared.tunnel.Tunnel.TheVariants.{Plain, Vxlan, L2tpv3}
use Rattle.ipx_tunnels.specs.declared.tunnel.Vni.{Vni}
use Rattle.ipx_wire.specs.AddressText.{spelled_bytes}
use Rattle.ipx_config.specs.declared.tunnel_kind.TunnelKind.{TunnelKind}
use Rattle.ipx_config.specs.declared.tunnel_kind.TunnelKind.TheVariants as By
use Rattle.ipx_config.specs.Values.{IsCount}

abbrev pub tunnel_word : TunnelKind → List ℕ
tunnel_word By.Vxlan = codes "vxlan"
tunnel_word By.L2tpv3 = codes "l2tpv3"

-- the string "vxlan" or the string "l2tpv3"
abbrev pub IsTunnelKind : Data → TunnelKind → Type 0
IsTunnelKind d kind = as_str d ≡ Some (tunnel_word kind)

-- the kind of a tunnel, if datagrams are not frames alone
abbrev pub kind_of_tunnel : Tunnel → Option TunnelKind
kind_of_tunnel Plain = None
kind_of_tunnel (Vxlan vni) = Some By.Vxlan
kind_of_tunnel (L2tpv3 s) = Some By.L2tpv3

-- an integer of 24 bits that is not 0: the number of a VXLAN network
abbrev pub IsVni : Data → Vni → Type 0
IsVni d vni = (n : ℕ) × IsCount 16777215 d n × (vni.0 ≡ big_bytes 3 n)

-- an integer of 32 bits that is not 0: the number of an L2TPv3 session
abbrev pub IsSession : Data → ℕ → Type 0
IsSession d n = IsCount 4294967295 d n

-- hex digits that are the bytes of a cookie: none, 8 or 16
abbrev pub WritesCookie : List ℕ → Cookie → Type 0
WritesCookie text Absent = text ≡ []
WritesCookie text (Short bytes) = spelled_bytes 4 text ≡ Some bytes
WritesCookie text (Long bytes) = spelled_bytes 8 text ≡ Some bytes

-- a string of them
abbrev pub IsCookie : Data → Cookie → Type 0
IsCookie d cookie = (text : List ℕ) × (as_str d ≡ Some text) × WritesCookie text cookie

-- ---- relation for a private function

-- the cookie that a text gives, or that it gives none
abbrev pub ReadsCookie : List ℕ → Option Cookie → Type 0
ReadsCookie text found = MatchOption found ((c : Cookie) → WritesCookie text c → ⊥) (WritesCookie text)
