-- SPX packets as hosts write them (Novell IPX and SPX): which ask for a connection, and the bytes of a link's
-- packet.
use Rattle.std.specs.Prelude.{ℕ, ◌≡◌, ◌<◌, true, List, []}
use Rattle.ipx_wire.specs.Assigned.{spx_type}
use Rattle.ipx_wire.specs.Ipx.{IsIpx, PacketView}
use Rattle.ipx_wire.specs.Spx.{IsSpx}
use Rattle.ipx_wire.specs.declared.address.Network.{Network}
use Rattle.ipx_wire.specs.declared.address.Node.{Node}
use Rattle.ipx_wire.specs.declared.spx.packet.SpxHeader.{SpxHeader}
use Rattle.spx_link.specs.Limits.{end_stream, no_id}
use Rattle.spx_link.specs.LinkView.{LinkView}
use Rattle.spx_link.specs.Poll.{OutgoingView}

-- the address of a host, without a socket
pub record Home : Type 0 where
  pub network : Network
  pub node : Node

-- a packet that asks for a connection
pub record IsRequestFor (h : SpxHeader) : Type 0 where
  pub system : h.system ≡ true
  pub to : h.to_id ≡ no_id
  pub stream : h.stream < end_stream
  pub above : 0 < h.from_id
  pub below : h.from_id < no_id

-- the bytes are what a link gave, as an IPX packet from its host and socket to the remote address
pub record IsWrittenPacket (home : Home) (l : LinkView) (g : OutgoingView) (bytes : List ℕ) : Type 0 where
  pub packet : PacketView
  pub is : IsIpx packet bytes []
  pub kind : packet.header.kind ≡ spx_type
  pub hops : packet.header.hops ≡ 0
  pub to : packet.header.to ≡ l.remote
  pub from : packet.header.from
      ≡ record { network = home.network; node = home.node; socket = l.local }
  pub spx : IsSpx g.header g.body packet.body
