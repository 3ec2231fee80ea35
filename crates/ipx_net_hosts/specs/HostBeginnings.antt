-- A host as a network creates it: an address, no links, and at most one socket that listens.
use Rattle.std.specs.Prelude.{ℕ, ◌≡◌, ◌==◌, List, [], ◌∷◌, ◌++◌, Option, Some, None, if◌then◌else◌}
use Rattle.ipx_wire.specs.declared.address.Network.{Network}
use Rattle.ipx_wire.specs.declared.address.Node.{Node}
use Rattle.ipx_wire.specs.declared.address.Socket.{Socket}
use Rattle.spx_link.specs.Links.{count_of}
use Rattle.spx_messages.specs.EndpointView.{buffers_at, held_at}
use Rattle.spx_theory.specs.World.{HostState}

-- the buffers of the links that are accepted at a socket
abbrev pub listens_at : Option (Socket × ℕ) → Socket → Option ℕ
listens_at None socket = None
listens_at (Some l) socket = if l.0.0 == socket.0 then Some l.1 else None

pub record BeginsAt (network : Network) (node router : Node) (listen : Option (Socket × ℕ))
    (s : HostState) : Type 0 where
  pub network_is : s.endpoint.network ≡ network
  pub node_is : s.endpoint.node ≡ node
  pub router_is : s.endpoint.router ≡ router
  pub none : (id : ℕ) → held_at s.endpoint id ≡ None
  pub count : count_of s.endpoint.links ≡ 0
  -- no id was assigned yet, no packet was given, and none was read
  pub last : s.endpoint.links.last ≡ 0
  pub said : s.endpoint.said ≡ None
  pub heard : s.endpoint.heard ≡ None
  pub here : s.here ≡ []
  pub buffers : (socket : Socket) → buffers_at s.endpoint socket ≡ listens_at listen socket

-- appends such a host
pub record AddsHost (old new : List HostState) (network : Network) (node router : Node)
    (listen : Option (Socket × ℕ)) : Type 0 where
  pub station : HostState
  pub begins : BeginsAt network node router listen station
  pub stations : new ≡ old ++ station ∷ []
