-- SPX packets on their way (Novell IPX and SPX): which are for a host, what an end writes, what a router
-- makes of one, and their entries.
use Rattle.std.specs.Prelude.{ℕ, ◌≡◌, ◌≢◌, ◌+◌, ◌<◌, ◌==◌, ◌⊎◌, List, [], ◌∷◌, if◌then◌else◌}
use Rattle.ipx_wire.specs.declared.address.Network.{Network}
use Rattle.ipx_wire.specs.declared.address.Socket.{Socket}
use Rattle.ipx_wire.specs.declared.address.Address.{Address}
use Rattle.ipx_wire.specs.Ipx.{PacketView, IsIpx}
use Rattle.spx_link.specs.declared.outgoing.Sent.{Sent}
use Rattle.spx_link.specs.declared.received.Received.{Received}
use Rattle.spx_messages.specs.Message.{MessageView}
use Rattle.spx_messages.specs.WrittenPackets.{Home}
use Rattle.spx_theory.specs.Note.{Note, Joined, HandsOut, Got, SendsUnit, SendsAgain, SendsSystem}
use Rattle.spx_link.specs.declared.outgoing.Sent.TheVariants as Sents
use Rattle.spx_link.specs.declared.received.Received.TheVariants as Receiveds

-- a packet for this host and this socket of it, from this address; network 0 is the segment on
-- which it is delivered
pub record IsFor (home : Home) (local : Socket) (remote : Address) (p : PacketView) : Type 0 where
  pub to_network : (p.header.to.network ≡ home.network) ⊎ (p.header.to.network.0 ≡ 0)
  pub to_node : p.header.to.node ≡ home.node
  pub to_socket : p.header.to.socket ≡ local
  pub from_address : p.header.from ≡ remote

-- the entry of a packet that an end sends: whether it carries a unit, for the first time or again
abbrev pub note_of : Sent → ℕ → ℕ → Note
note_of Sents.Request who parcel = SendsSystem who parcel
note_of Sents.Reply who parcel = SendsSystem who parcel
note_of Sents.Confirm who parcel = SendsSystem who parcel
note_of Sents.Unit who parcel = SendsUnit who parcel
note_of Sents.Again who parcel = SendsAgain who parcel
note_of Sents.Ack who parcel = SendsSystem who parcel
note_of Sents.Probe who parcel = SendsSystem who parcel

-- the entries of a packet that a link reads; one of an unknown sender is not read
abbrev pub notes_of : Received → ℕ → ℕ → List Note
notes_of Receiveds.Joined who parcel = Joined who parcel ∷ Got who parcel ∷ []
notes_of Receiveds.Kept who parcel = Got who parcel ∷ []
notes_of Receiveds.Repeat who parcel = Got who parcel ∷ []
notes_of Receiveds.Ahead who parcel = Got who parcel ∷ []
notes_of Receiveds.OverAllocation who parcel = Got who parcel ∷ []
notes_of Receiveds.System who parcel = Got who parcel ∷ []
notes_of Receiveds.PeerEnded who parcel = Got who parcel ∷ []
notes_of Receiveds.Confirmed who parcel = Got who parcel ∷ []
notes_of Receiveds.Stranger who parcel = []

-- a packet after one more router: it has one hop more, and a source network of 0 is replaced by this one
abbrev pub one_on : Network → PacketView → PacketView
one_on network p = record p {
  header = record p.header {
    hops = p.header.hops + 1;
    from = record p.header.from {
      network = if p.header.from.network.0 == 0 then network else p.header.from.network;
    };
  };
}

-- a router that got the old bytes on this network sends the new ones, without what follows the packet
pub record IsOneOn (network : Network) (old new : List ℕ) : Type 0 where
  pub packet : PacketView
  pub tail : List ℕ
  pub is : IsIpx packet old tail
  pub hops : packet.header.hops < 15
  pub becomes : IsIpx (one_on network packet) new []
  pub network_is : network.0 ≢ 0

-- the entries of messages that are handed out
abbrev pub out_notes : ℕ → List MessageView → List Note
out_notes who [] = []
out_notes who (m ∷ ms) = HandsOut who m ∷ out_notes who ms
