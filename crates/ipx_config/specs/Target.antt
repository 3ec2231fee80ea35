-- The arguments that name an address. Nothing here is from a public standard.
use Rattle.std.specs.Prelude.{◌≡◌, ◌≢◌, IfSome, Some, None}
use Rattle.ipx_wire.specs.AddressText.{spelled_network, spelled_node, spelled_socket}
use Rattle.ipx_wire.specs.declared.address.Address.{Address}
use Rattle.ipx_config.specs.declared.target.Target.{Target}
use Rattle.ipx_config.specs.declared.target.TargetFault.{TargetFault}
use Rattle.ipx_config.specs.declared.target.TargetFault.TheVariants.{Network, Node, Socket}

-- three arguments name an address, in eight, twelve and four hex digits. Its socket is not 0
pub record NamesAddress (t : Target) (a : Address) : Type 0 where
  pub network : spelled_network t.network.now ≡ Some a.network
  pub node : spelled_node t.node.now ≡ Some a.node
  pub socket : spelled_socket t.socket.now ≡ Some a.socket
  pub listening : a.socket.0 ≢ 0

-- the argument that is wrong
abbrev pub IsTargetFault : Target → TargetFault → Type 0
IsTargetFault t Network = spelled_network t.network.now ≡ None
IsTargetFault t Node = spelled_node t.node.now ≡ None
IsTargetFault t Socket = IfSome (spelled_socket t.socket.now) (λ s. s.0 ≡ 0)
