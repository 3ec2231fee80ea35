-- The packets that a router makes itself, and how lists are split into them.
use Rattle.std.specs.Prelude.{◌≡◌, ◌≢◌, ◌<◌, ℕ, Bool, List, [], ◌∷◌, All, length, take, drop, map}
use Rattle.ipx_wire.specs.declared.address.Node.{Node}
use Rattle.ipx_wire.specs.declared.ipx.packet.IpxHeader.{IpxHeader}
use Rattle.ipx_wire.specs.Ipx.{IsBytes, IsIpx, PacketView}
use Rattle.ipx_wire.specs.Assigned.{broadcast_node, packet_exchange_type, rip_socket, rip_type, sap_socket, spx_type}
use Rattle.ipx_control.specs.declared.rip.packet.RipEntry.{RipEntry}
use Rattle.ipx_control.specs.declared.sap.packet.ServiceEntry.{ServiceEntry}
use Rattle.ipx_control.specs.Rip.{RipView, IsRip}
use Rattle.ipx_control.specs.Rip as rip
use Rattle.ipx_control.specs.Sap.{SapView, IsSap}
use Rattle.ipx_control.specs.Sap as sap
use Rattle.ipx_router.specs.declared.outcome.Reply.{Reply}
use Rattle.ipx_router.specs.declared.packets.Recipient.{Recipient}
use Rattle.ipx_router.specs.declared.port.Port.{Port}
use Rattle.ipx_router.specs.declared.port.PortNow.{PortNow}

-- a packet to send, without its place in memory
pub record SendingView : Type 0 where
  pub port : ℕ
  pub next : Node
  pub bytes : List ℕ

abbrev pub sending_of : Reply → SendingView
sending_of r = record { port = r.port; next = r.next; bytes = r.bytes.items }

abbrev pub sendings : List Reply → List SendingView
sendings = map sending_of

-- the bytes are the packet with nothing after it, each a number under 256
pub record AreBytesOf (p : PacketView) (bytes : List ℕ) : Type 0 where
  pub packet : IsIpx p bytes []
  pub in_range : IsBytes bytes

-- a packet that no SPX endpoint reads
pub record IsOwn (s : SendingView) : Type 0 where
  pub packet : PacketView
  pub is : IsIpx packet s.bytes []
  pub no_spx : packet.header.kind ≢ spx_type

abbrev pub AreOwn : List SendingView → Type 0
AreOwn = All IsOwn

-- the recipient of a reply to a request or query: the node and socket that it came from
abbrev pub recipient_at : PortNow → IpxHeader → Recipient
recipient_at at h =
    record { number = at.number; port = at.port; node = h.from.node; socket = h.from.socket }

-- node FFFFFFFFFFFF is all nodes of a network
abbrev pub broadcast : Node
broadcast = record { 0 = broadcast_node }

-- all nodes of a port's network, at a socket
abbrev pub all_nodes : ℕ → Port → ℕ → Recipient
all_nodes number port socket = record {
  number = number;
  port = port;
  node = broadcast;
  socket = record { 0 = socket };
}

-- the header of a packet that the router makes itself, from its port to a node and socket of that port's
-- network
abbrev pub own_header : Recipient → ℕ → ℕ → IpxHeader
own_header to kind socket = record {
  hops = 0;
  kind = kind;
  to = record { network = to.port.network; node = to.node; socket = to.socket };
  from = record { network = to.port.network; node = to.port.node; socket = record { 0 = socket } };
}

-- a packet that the router makes itself with such a body, and nothing after it
pub record IsOwnPacket (to : Recipient) (kind socket : ℕ) (IsBody : List ℕ → Type 0)
    (s : SendingView) : Type 0 where
  pub port : s.port ≡ to.number
  pub next : s.next ≡ to.node
  pub body : List ℕ
  pub says : IsBody body
  pub packet : AreBytesOf (record { header = own_header to kind socket; body = body }) s.bytes

abbrev pub IsRipPacket : Recipient → RipView → SendingView → Type 0
IsRipPacket to message = IsOwnPacket to rip_type rip_socket (λ body. IsRip message body [])

abbrev pub IsSapPacket : Recipient → SapView → SendingView → Type 0
IsSapPacket to message =
    IsOwnPacket to packet_exchange_type sap_socket (λ body. IsSap message body [])

module _ {E : Type 0} (most : ℕ) (IsPacketOf : List E → SendingView → Type 0) where
  -- the packets that a list is split into: each holds as many entries as it may, and the last one the rest
  abbrev pub AreCutOf : List E → List SendingView → Type 0
  AreCutOf entries [] = entries ≡ []
  AreCutOf entries (s ∷ ss) =
      (0 < length entries) × IsPacketOf (take most entries) s × AreCutOf (drop most entries) ss

-- the packets of a list of routes, 50 at most each
abbrev pub AreRoutePackets : Recipient → List RipEntry → List SendingView → Type 0
AreRoutePackets to = AreCutOf 50 (λ part. IsRipPacket to (rip.Response part))

-- the packets of a list of services, 7 at most each
abbrev pub AreServicePackets : Recipient → Bool → List ServiceEntry → List SendingView → Type 0
AreServicePackets to nearest = AreCutOf 7 (λ part. IsSapPacket to (sap.Response nearest part))
