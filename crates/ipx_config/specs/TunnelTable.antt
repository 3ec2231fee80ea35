-- The tunnel of an Ethernet port in the file of a router. Defined by this project.
use Rattle.std.specs.Prelude.{◌≡◌, ◌⊎◌, ⊤, ℕ, Option, Some, None, false}
use Rattle.toml.specs.Data.{Members}
use Rattle.ipx_tunnels.specs.declared.tunnel.Cookie.TheVariants.{Absent}
use Rattle.ipx_tunnels.specs.declared.tunnel.Session.{Session}
use Rattle.ipx_tunnels.specs.declared.tunnel.Tunnel.{Tunnel}
use Rattle.ipx_tunnels.specs.declared.tunnel.Tunnel.TheVariants.{Plain, Vxlan, L2tpv3}
use Rattle.ipx_config.specs.declared.fault.ConfigError.{ConfigError}
use Rattle.ipx_config.specs.declared.fault.ConfigError.TheVariants.{OtherTunnel}
use Rattle.ipx_config.specs.declared.key.Key.{Key as AKey}
use Rattle.ipx_config.specs.declared.key.Key.TheVariants as Key
use Rattle.ipx_config.specs.declared.tunnel_kind.TunnelKind.{TunnelKind}
use Rattle.ipx_config.specs.declared.tunnel_kind.TunnelKind.TheVariants as By
use Rattle.ipx_config.specs.EthernetValues.{IsFlag}
use Rattle.ipx_config.specs.Fields.{Holds, HoldsIf, HoldsOr, IsFault, IsRight, IsRightOr, IsWrong, first_present}
use Rattle.ipx_config.specs.Keys.{keys_of_other_tunnels}
use Rattle.ipx_config.specs.TunnelValues.{IsCookie, IsSession, IsTunnelKind, IsVni, kind_of_tunnel}
use Rattle.ipx_config.specs.Values.{IsCount}

-- a table describes an L2TPv3 session. By default both sides have the same numbers and cookies
pub record IsSessionTable (ms : Members) (s : Session) : Type 0 where
  pub id : Holds IsSession Key.Session ms s.id
  pub peer_id : HoldsOr IsSession Key.PeerSession ms s.id s.peer_id
  pub cookie : HoldsOr IsCookie Key.Cookie ms Absent s.cookie
  pub peer_cookie : HoldsOr IsCookie Key.PeerCookie ms s.cookie s.peer_cookie
  pub sublayer : HoldsOr IsFlag Key.Sublayer ms false s.sublayer

-- the first fault of its keys, in order
abbrev pub IsSessionFault : Members → ℕ → ConfigError → Type 0
IsSessionFault ms table f =
    IsFault IsSession Key.Session ms table f
    ⊎ (IsRight IsSession Key.Session ms × (IsWrong IsSession Key.PeerSession ms table f
    ⊎ (IsRightOr IsSession Key.PeerSession ms × (IsWrong IsCookie Key.Cookie ms table f
    ⊎ (IsRightOr IsCookie Key.Cookie ms × (IsWrong IsCookie Key.PeerCookie ms table f
    ⊎ (IsRightOr IsCookie Key.PeerCookie ms × IsWrong IsFlag Key.Sublayer ms table f)))))))

-- the keys of a tunnel have what it is
abbrev pub AreTunnelKeys : Members → Tunnel → Type 0
AreTunnelKeys ms Plain = ⊤
AreTunnelKeys ms (Vxlan vni) = Holds IsVni Key.Vni ms vni
AreTunnelKeys ms (L2tpv3 s) = IsSessionTable ms s

abbrev pub IsTunnelKeyFault : Option TunnelKind → Members → ℕ → ConfigError → Type 0
IsTunnelKeyFault None ms table f = ⊥
IsTunnelKeyFault (Some By.Vxlan) ms table f = IsFault IsVni Key.Vni ms table f
IsTunnelKeyFault (Some By.L2tpv3) ms table f = IsSessionFault ms table f

-- a table has no key of another tunnel than one of this kind
abbrev pub HasNoOtherTunnel : Option TunnelKind → Members → Type 0
HasNoOtherTunnel kind ms = first_present (keys_of_other_tunnels kind) ms ≡ None

-- or it has one: the fault has the first such key
abbrev pub IsOtherTunnel : Option TunnelKind → Members → ℕ → ConfigError → Type 0
IsOtherTunnel kind ms table f = (key : AKey) × (first_present (keys_of_other_tunnels kind) ms ≡ Some key)
    × (f ≡ OtherTunnel table key)

-- a table describes a tunnel
pub record IsTunnelTable (ms : Members) (tunnel : Tunnel) : Type 0 where
  pub kind : HoldsIf IsTunnelKind Key.Tunnel ms (kind_of_tunnel tunnel)
  pub alone : HasNoOtherTunnel (kind_of_tunnel tunnel) ms
  pub keys : AreTunnelKeys ms tunnel

-- the first fault: that of its kind, a key of another tunnel, followed by the keys of its own in order
abbrev pub IsTunnelFault : Members → ℕ → ConfigError → Type 0
IsTunnelFault ms table f = IsWrong IsTunnelKind Key.Tunnel ms table f
    ⊎ ((kind : Option TunnelKind) × HoldsIf IsTunnelKind Key.Tunnel ms kind × (IsOtherTunnel kind ms table f
    ⊎ (HasNoOtherTunnel kind ms × IsTunnelKeyFault kind ms table f)))

-- the UDP port, which is required if there is no usual one
abbrev pub IsUdpPort : Option ℕ → Members → ℕ → Type 0
IsUdpPort None ms udp_port = Holds (IsCount 65535) Key.UdpPort ms udp_port
IsUdpPort (Some usual) ms udp_port = HoldsOr (IsCount 65535) Key.UdpPort ms usual udp_port

abbrev pub IsUdpPortFault : Option ℕ → Members → ℕ → ConfigError → Type 0
IsUdpPortFault None ms table f = IsFault (IsCount 65535) Key.UdpPort ms table f
IsUdpPortFault (Some usual) ms table f = IsWrong (IsCount 65535) Key.UdpPort ms table f
