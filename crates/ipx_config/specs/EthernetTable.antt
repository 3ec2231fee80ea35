-- An Ethernet port in a router's file, and a port of any kind: a table `[[port]]`. Defined by this project.
use Rattle.std.specs.Prelude.{◌≡◌, ◌⊎◌, ℕ, List, true, None}
use Rattle.std.specs.declared.net.socket_addr.SocketAddrV4.{SocketAddrV4}
use Rattle.toml.specs.Data.{Members}
use Rattle.ipx_carrier.specs.Traces.{v4_at}
use Rattle.ipx_tunnels.specs.declared.tunnel.Tunnel.{Tunnel}
use Rattle.ipx_config.specs.declared.fault.ConfigError.{ConfigError}
use Rattle.ipx_config.specs.declared.key.Key.TheVariants as Key
use Rattle.ipx_config.specs.declared.site.EthernetPortConfig.{EthernetPortConfig}
use Rattle.ipx_config.specs.declared.site.Directed.TheVariants as Directed
use Rattle.ipx_config.specs.declared.site.Kind.{Kind}
use Rattle.ipx_config.specs.declared.site.Kind.TheVariants as Of
use Rattle.ipx_config.specs.declared.site.PortConfig.{PortConfig}
use Rattle.ipx_config.specs.declared.site.PortConfig.TheVariants.{Rfc1234, Ethernet, Ipxnet}
use Rattle.ipx_config.specs.Fields.{Holds, HoldsOr, IsFault, IsRight, IsRightOr, IsStray, IsWrong}
use Rattle.ipx_config.specs.IpxnetTable.{IsIpxnetFault, IsIpxnetTable}
use Rattle.ipx_config.specs.Keys.{first_unknown, ethernet_keys}
use Rattle.ipx_config.specs.Port.{IsPortFault, IsPortTable}
use Rattle.ipx_config.specs.PortKinds.{kind_of_port}
use Rattle.ipx_config.specs.TunnelTable.{IsTunnelFault, IsTunnelTable, IsUdpPort, IsUdpPortFault}
use Rattle.ipx_config.specs.Values.{IsCount, IsDirected, IsIpAddress, IsKind, IsNetwork}
use Rattle.ipx_config.specs.EthernetValues.{AreRemotesOf, IsEncapsulation, IsFlag, IsStation, made_station, usual_udp_port}

-- a table describes an Ethernet port, if its kind is that
pub record IsEthernetTable (ms : Members) (p : EthernetPortConfig) : Type 0 where
  pub known : first_unknown ethernet_keys ms ≡ None
  pub network : Holds IsNetwork Key.Network ms p.network
  pub encapsulation : Holds IsEncapsulation Key.Encapsulation ms p.encapsulation
  pub address : Holds IsIpAddress Key.Address ms p.address
  pub tunnel : IsTunnelTable ms p.tunnel
  pub udp_port : IsUdpPort (usual_udp_port p.tunnel) ms p.udp_port
  pub cost : HoldsOr (IsCount 65535) Key.Cost ms 1 p.cost
  pub remotes : Holds (AreRemotesOf p.tunnel (v4_at p.address p.udp_port)) Key.Remotes ms p.remotes
  pub node : HoldsOr IsStation Key.Node ms (made_station p.address p.udp_port) p.node
  pub switched : HoldsOr IsFlag Key.Switch ms true p.switched
  pub directed : HoldsOr IsDirected Key.Directed ms Directed.Few p.directed

-- the first fault of the keys for the remotes of a port with this tunnel at this place, and of the keys after
-- them
abbrev pub IsEthernetFieldFault : Tunnel → SocketAddrV4 → Members → ℕ → ConfigError → Type 0
IsEthernetFieldFault tunnel own ms table f = IsFault (AreRemotesOf tunnel own) Key.Remotes ms table f
    ⊎ (IsRight (AreRemotesOf tunnel own) Key.Remotes ms × (IsWrong IsStation Key.Node ms table f
    ⊎ (IsRightOr IsStation Key.Node ms × (IsWrong IsFlag Key.Switch ms table f
    ⊎ (IsRightOr IsFlag Key.Switch ms × IsWrong IsDirected Key.Directed ms table f)))))

-- the first fault of the UDP port of a port with this IP address and this tunnel, and of the keys after it
abbrev pub IsEthernetTunnelFault : List ℕ → Tunnel → Members → ℕ → ConfigError → Type 0
IsEthernetTunnelFault ip tunnel ms table f = IsUdpPortFault (usual_udp_port tunnel) ms table f
    ⊎ ((udp_port : ℕ) × IsUdpPort (usual_udp_port tunnel) ms udp_port × (IsWrong (IsCount 65535) Key.Cost ms table f
    ⊎ (IsRightOr (IsCount 65535) Key.Cost ms × IsEthernetFieldFault tunnel (v4_at ip udp_port) ms table f)))

-- the first fault of the table: a name that is no key of this kind, followed by the keys in order
abbrev pub IsEthernetFault : ℕ → Members → ConfigError → Type 0
IsEthernetFault table ms f =
    IsStray Of.Ethernet ms table f
    ⊎ ((first_unknown ethernet_keys ms ≡ None) × (IsFault IsNetwork Key.Network ms table f
    ⊎ (IsRight IsNetwork Key.Network ms × (IsFault IsEncapsulation Key.Encapsulation ms table f
    ⊎ (IsRight IsEncapsulation Key.Encapsulation ms × (IsFault IsIpAddress Key.Address ms table f
    ⊎ ((ip : List ℕ) × Holds IsIpAddress Key.Address ms ip × (IsTunnelFault ms table f
    ⊎ ((tunnel : Tunnel) × IsTunnelTable ms tunnel × IsEthernetTunnelFault ip tunnel ms table f)))))))))

-- ---- a port of any kind: RFC 1234 if the table gives none

abbrev pub IsTableOfKind : Members → PortConfig → Type 0
IsTableOfKind ms (Rfc1234 p) = IsPortTable ms p
IsTableOfKind ms (Ethernet p) = IsEthernetTable ms p
IsTableOfKind ms (Ipxnet p) = IsIpxnetTable ms p

-- a table describes a port
abbrev pub IsPortOfKind : Members → PortConfig → Type 0
IsPortOfKind ms p = HoldsOr IsKind Key.Kind ms Of.Rfc1234 (kind_of_port p) × IsTableOfKind ms p

abbrev pub IsFaultOfKind : Kind → ℕ → Members → ConfigError → Type 0
IsFaultOfKind Of.Rfc1234 table ms f = IsPortFault table ms f
IsFaultOfKind Of.Ethernet table ms f = IsEthernetFault table ms f
IsFaultOfKind Of.Ipxnet table ms f = IsIpxnetFault table ms f

-- its first fault: that of its kind, followed by those of a port of that kind
abbrev pub IsKindFault : ℕ → Members → ConfigError → Type 0
IsKindFault table ms f = IsWrong IsKind Key.Kind ms table f
    ⊎ ((kind : Kind) × HoldsOr IsKind Key.Kind ms Of.Rfc1234 kind × IsFaultOfKind kind table ms f)
