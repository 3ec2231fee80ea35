-- An RFC 1234 port in the file of a router: a table `[[port]]`. Defined by this project.
use Rattle.std.specs.Prelude.{Vec, ◌≡◌, ◌⊎◌, ℕ, List, None}
use Rattle.std.specs.Global.{Global}
use Rattle.toml.specs.Data.{Members}
use Rattle.ipx_carrier.specs.Mapping.{usual_port}
use Rattle.ipx_config.specs.declared.fault.ConfigError.{ConfigError}
use Rattle.ipx_config.specs.declared.key.Key.TheVariants as Key
use Rattle.ipx_config.specs.declared.site.Accept.TheVariants as Accept
use Rattle.ipx_config.specs.declared.site.Directed.TheVariants as Directed
use Rattle.ipx_config.specs.declared.site.Kind.TheVariants as Kind
use Rattle.ipx_config.specs.declared.site.Rfc1234PortConfig.{Rfc1234PortConfig}
use Rattle.ipx_config.specs.Keys.{first_unknown, port_keys}
use Rattle.ipx_config.specs.Values.{AreAddressesOf, AreRouterPeers, IsAccept, IsIpAddress, IsCount, IsDirected, IsNetwork}
use Rattle.ipx_config.specs.Fields.{Holds, HoldsIf, HoldsOr, IsFault, IsRight, IsRightOr, IsStray, IsWrong}

-- a table describes an RFC 1234 port, if its kind is that
pub record IsPortTable (ms : Members) (p : Rfc1234PortConfig) : Type 0 where
  pub known : first_unknown port_keys ms ≡ None
  pub network : Holds IsNetwork Key.Network ms p.network
  pub address : Holds IsIpAddress Key.Address ms p.address
  pub udp_port : HoldsOr (IsCount 65535) Key.UdpPort ms usual_port p.udp_port
  pub cost : HoldsOr (IsCount 65535) Key.Cost ms 1 p.cost
  pub peers : Holds AreAddressesOf Key.Peers ms p.peers
  pub routers : HoldsIf (AreRouterPeers p.peers.items) Key.Routers ms p.routers
  pub accept : HoldsOr IsAccept Key.Accept ms Accept.Peers p.accept
  pub directed : HoldsOr IsDirected Key.Directed ms Directed.Few p.directed

-- the first fault of the keys after its peers: which of them are routers, which senders are accepted, and
-- which directed broadcasts leave by it
abbrev pub IsAccessFault : Members → ℕ → ConfigError → Type 0
IsAccessFault ms table f = (peers : Vec (List ℕ) Global) × Holds AreAddressesOf Key.Peers ms peers
    × (IsWrong (AreRouterPeers peers.items) Key.Routers ms table f
    ⊎ (IsRightOr (AreRouterPeers peers.items) Key.Routers ms × (IsWrong IsAccept Key.Accept ms table f
    ⊎ (IsRightOr IsAccept Key.Accept ms × IsWrong IsDirected Key.Directed ms table f))))

-- the first fault of the table of a port: a name that is no key, followed by the keys in order
abbrev pub IsPortFault : ℕ → Members → ConfigError → Type 0
IsPortFault table ms f =
    IsStray Kind.Rfc1234 ms table f
    ⊎ ((first_unknown port_keys ms ≡ None) × (IsFault IsNetwork Key.Network ms table f
    ⊎ (IsRight IsNetwork Key.Network ms × (IsFault IsIpAddress Key.Address ms table f
    ⊎ (IsRight IsIpAddress Key.Address ms × (IsWrong (IsCount 65535) Key.UdpPort ms table f
    ⊎ (IsRightOr (IsCount 65535) Key.UdpPort ms × (IsWrong (IsCount 65535) Key.Cost ms table f
    ⊎ (IsRightOr (IsCount 65535) Key.Cost ms × (IsFault AreAddressesOf Key.Peers ms table f
    ⊎ IsAccessFault ms table f))))))))))
