-- An ipxnet port in the file of a router: a table `[[port]]`. Defined by this project.
use Rattle.std.specs.Prelude.{Vec, ◌≡◌, ◌⊎◌, ℕ, [], None, true, false}
use Rattle.std.specs.Global.{Global}
use Rattle.std.specs.declared.net.socket_addr.SocketAddrV4.{SocketAddrV4}
use Rattle.toml.specs.Data.{Members, get_member}
use Rattle.ipx_carrier.specs.Mapping.{usual_port}
use Rattle.ipxnet_server.specs.ServerClients.{max_server_clients}
use Rattle.ipx_config.specs.declared.fault.ConfigError.{ConfigError}
use Rattle.ipx_config.specs.declared.fault.ConfigError.TheVariants.{Wrong}
use Rattle.ipx_config.specs.declared.key.Key.TheVariants as Key
use Rattle.ipx_config.specs.declared.site.Accept.{Accept}
use Rattle.ipx_config.specs.declared.site.Accept.TheVariants as Who
use Rattle.ipx_config.specs.declared.site.Directed.TheVariants as Directed
use Rattle.ipx_config.specs.declared.ipxnet_port.IpxnetPortConfig.{IpxnetPortConfig}
use Rattle.ipx_config.specs.declared.ipxnet_port.Peer.{Peer}
use Rattle.ipx_config.specs.declared.site.Kind.TheVariants as Of
use Rattle.ipx_config.specs.Fields.{Holds, HoldsOr, IsFault, IsMissing, IsRight, IsRightOr, IsStray, IsWrong}
use Rattle.ipx_config.specs.IpxnetPeers.{ArePeersOf}
use Rattle.ipx_config.specs.Keys.{first_unknown, ipxnet_keys, key_text}
use Rattle.ipx_config.specs.Values.{IsAccept, IsAnyOrAddress, IsCount, IsDirected, IsNetwork}
use Rattle.ipx_config.specs.EthernetValues.{AreEthernetEnds, IsStation, are_places_distinct, made_station}

-- the peers that may register; the key is required unless everybody may register
abbrev pub ArePeersFor : Accept → Members → Vec Peer Global → Type 0
ArePeersFor accept ms peers = ((accept ≡ Who.Any) × (get_member (key_text Key.Peers) ms ≡ None) × (peers.items ≡ []))
    ⊎ Holds ArePeersOf Key.Peers ms peers

abbrev pub IsPeersFault : Accept → Members → ℕ → ConfigError → Type 0
IsPeersFault accept ms table f = ((accept ≡ Who.Peers) × IsMissing Key.Peers ms table f)
    ⊎ IsWrong ArePeersOf Key.Peers ms table f

-- the routers whose ipxnet servers are joined with this one: the places in the file, each once, or none
abbrev pub AreJoinedRouters : Members → Vec SocketAddrV4 Global → Type 0
AreJoinedRouters ms join = ((get_member (key_text Key.Join) ms ≡ None) × (join.items ≡ []))
    ⊎ (Holds (AreEthernetEnds None) Key.Join ms join × (are_places_distinct join.items ≡ true))

-- the key for them gives no places, or one of them twice
abbrev pub IsJoinFault : Members → ℕ → ConfigError → Type 0
IsJoinFault ms table f = IsWrong (AreEthernetEnds None) Key.Join ms table f
    ⊎ ((f ≡ Wrong table Key.Join) × ((join : Vec SocketAddrV4 Global) × Holds (AreEthernetEnds None) Key.Join ms join
    × (are_places_distinct join.items ≡ false)))

-- a table describes an ipxnet port, if its kind is that
pub record IsIpxnetTable (ms : Members) (p : IpxnetPortConfig) : Type 0 where
  pub known : first_unknown ipxnet_keys ms ≡ None
  pub network : Holds IsNetwork Key.Network ms p.network
  pub address : Holds IsAnyOrAddress Key.Address ms p.address
  pub udp_port : HoldsOr (IsCount 65535) Key.UdpPort ms usual_port p.udp_port
  pub cost : HoldsOr (IsCount 65535) Key.Cost ms 1 p.cost
  pub node : HoldsOr IsStation Key.Node ms (made_station p.address p.udp_port) p.node
  pub clients : HoldsOr (IsCount max_server_clients) Key.Clients ms 64 p.clients
  pub accept : HoldsOr IsAccept Key.Accept ms Who.Peers p.accept
  pub peers : ArePeersFor p.accept ms p.peers
  pub join : AreJoinedRouters ms p.join
  pub directed : HoldsOr IsDirected Key.Directed ms Directed.Few p.directed

-- the first fault of the last keys: the routers that it is joined to, and the directed broadcasts that leave
-- by it
abbrev pub IsLastFault : Members → ℕ → ConfigError → Type 0
IsLastFault ms table f = IsJoinFault ms table f
    ⊎ ((join : Vec SocketAddrV4 Global) × AreJoinedRouters ms join × IsWrong IsDirected Key.Directed ms table f)

-- the first fault of the keys for its clients, which follow its node
abbrev pub IsClientsFault : Members → ℕ → ConfigError → Type 0
IsClientsFault ms table f = IsWrong (IsCount max_server_clients) Key.Clients ms table f
    ⊎ (IsRightOr (IsCount max_server_clients) Key.Clients ms × (IsWrong IsAccept Key.Accept ms table f
    ⊎ ((accept : Accept) × HoldsOr IsAccept Key.Accept ms Who.Peers accept × (IsPeersFault accept ms table f
    ⊎ ((peers : Vec Peer Global) × ArePeersFor accept ms peers × IsLastFault ms table f)))))

-- the first fault of the table: a name that is no key of this kind, followed by the keys in order
abbrev pub IsIpxnetFault : ℕ → Members → ConfigError → Type 0
IsIpxnetFault table ms f =
    IsStray Of.Ipxnet ms table f
    ⊎ ((first_unknown ipxnet_keys ms ≡ None) × (IsFault IsNetwork Key.Network ms table f
    ⊎ (IsRight IsNetwork Key.Network ms × (IsFault IsAnyOrAddress Key.Address ms table f
    ⊎ (IsRight IsAnyOrAddress Key.Address ms × (IsWrong (IsCount 65535) Key.UdpPort ms table f
    ⊎ (IsRightOr (IsCount 65535) Key.UdpPort ms × (IsWrong (IsCount 65535) Key.Cost ms table f
    ⊎ (IsRightOr (IsCount 65535) Key.Cost ms × (IsWrong IsStation Key.Node ms table f
    ⊎ (IsRightOr IsStation Key.Node ms × IsClientsFault ms table f)))))))))))
