-- The file of a host. Defined by this project.
use Rattle.std.specs.Prelude.{◌≡◌, ◌⊎◌, ℕ, List, [], None, Some}
use Rattle.toml.specs.Data.{Members}
use Rattle.toml.specs.Parse.{parse_document}
use Rattle.ipx_carrier.specs.Mapping.{usual_port}
use Rattle.ipx_config.specs.declared.fault.ConfigError.{ConfigError}
use Rattle.ipx_config.specs.declared.key.Key.TheVariants as Key
use Rattle.ipx_config.specs.declared.host.HostConfig.{HostConfig}
use Rattle.ipx_config.specs.declared.site.Accept.TheVariants as Accept
use Rattle.ipx_config.specs.Keys.{first_unknown, host_keys}
use Rattle.ipx_config.specs.Neighbours.{AreAmong, AreNeighbours}
use Rattle.ipx_config.specs.AllowedPeers.{AreOrigins}
use Rattle.ipx_config.specs.Values.{IsAccept, IsIpAddress, IsCount, IsNetwork, IsSocket}
use Rattle.ipx_config.specs.Fields.{Holds, HoldsIf, HoldsOr, IsFault, IsNoToml, IsRight, IsRightOr, IsUnknown, IsWrong}

-- a table describes a host
pub record IsHost (ms : Members) (h : HostConfig) : Type 0 where
  pub known : first_unknown host_keys ms ≡ None
  pub network : Holds IsNetwork Key.Network ms h.network
  pub address : Holds IsIpAddress Key.Address ms h.address
  pub router : Holds IsIpAddress Key.Router ms h.router
  pub udp_port : HoldsOr (IsCount 65535) Key.UdpPort ms usual_port h.udp_port
  pub socket : Holds IsSocket Key.Socket ms h.socket
  pub buffers : HoldsOr (IsCount 8192) Key.Buffers ms 1024 h.buffers
  pub peers : HoldsOr AreNeighbours Key.Peers ms [] h.peers.items
  pub routers : HoldsOr (AreAmong h.peers.items) Key.Routers ms [] h.routers.items
  pub from : HoldsIf AreOrigins Key.Allow ms h.from
  pub accept : HoldsOr IsAccept Key.Accept ms Accept.Peers h.accept

-- the first fault of the keys for accepted senders and allowed peers, in order
abbrev pub IsCircleFault : Members → ConfigError → Type 0
IsCircleFault ms f = IsWrong AreNeighbours Key.Peers ms 0 f
    ⊎ ((peers : List (List ℕ)) × HoldsOr AreNeighbours Key.Peers ms [] peers
    × (IsWrong (AreAmong peers) Key.Routers ms 0 f
    ⊎ (IsRightOr (AreAmong peers) Key.Routers ms × (IsWrong AreOrigins Key.Allow ms 0 f
    ⊎ (IsRightOr AreOrigins Key.Allow ms × IsWrong IsAccept Key.Accept ms 0 f)))))

-- its first fault: a name that is no key, followed by the keys in order
abbrev pub IsHostFault : Members → ConfigError → Type 0
IsHostFault ms f =
    IsUnknown host_keys ms 0 f
    ⊎ ((first_unknown host_keys ms ≡ None) × (IsFault IsNetwork Key.Network ms 0 f
    ⊎ (IsRight IsNetwork Key.Network ms × (IsFault IsIpAddress Key.Address ms 0 f
    ⊎ (IsRight IsIpAddress Key.Address ms × (IsFault IsIpAddress Key.Router ms 0 f
    ⊎ (IsRight IsIpAddress Key.Router ms × (IsWrong (IsCount 65535) Key.UdpPort ms 0 f
    ⊎ (IsRightOr (IsCount 65535) Key.UdpPort ms × (IsFault IsSocket Key.Socket ms 0 f
    ⊎ (IsRight IsSocket Key.Socket ms × (IsWrong (IsCount 8192) Key.Buffers ms 0 f
    ⊎ (IsRightOr (IsCount 8192) Key.Buffers ms × IsCircleFault ms f)))))))))))))

-- a text is the file of a host
abbrev pub IsHostText : List ℕ → HostConfig → Type 0
IsHostText text h = (ms : Members) × (parse_document text ≡ Some ms) × IsHost ms h

-- the first fault of a text that is not
abbrev pub IsHostTextFault : List ℕ → ConfigError → Type 0
IsHostTextFault text f = IsNoToml text f
    ⊎ ((ms : Members) × (parse_document text ≡ Some ms) × IsHostFault ms f)
