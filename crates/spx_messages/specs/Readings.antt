-- Definitions for private functions: how a host reads a datagram, and its answer.
use Rattle.std.specs.Prelude.{ℕ, ◌≡◌, ◌≢◌, ◌<◌, ◌≤◌, ◌⊎◌, List, Some, None}
use Rattle.ipx_wire.specs.Assigned.{spx_type}
use Rattle.ipx_wire.specs.Connection.{IsConnectionPacket}
use Rattle.ipx_wire.specs.Ipx.{PacketView, BeginsWith, ipx_fault}
use Rattle.ipx_wire.specs.Spx.{spx_fault}
use Rattle.ipx_wire.specs.declared.ipx.packet.IpxHeader.{IpxHeader}
use Rattle.ipx_wire.specs.declared.spx.fault.SpxFault.{SpxFault}
use Rattle.spx_link.specs.declared.received.Received.{Received}
use Rattle.spx_link.specs.declared.received.Received.TheVariants as Receiveds
use Rattle.spx_link.specs.Limits.{most_links}
use Rattle.spx_link.specs.LinkView.{LinkView}
use Rattle.spx_link.specs.Links.{LinksView, link_at, count_of, Adds, ChangesOnly, IsNextFree}
use Rattle.spx_link.specs.Links.{IsAcceptedFrom, IsLeast}
use Rattle.spx_link.specs.Receive.{receive_link}
use Rattle.spx_link.specs.Offer.{owe_reply_link, accepted_from}
use Rattle.spx_messages.specs.WrittenPackets.{Home}
use Rattle.spx_messages.specs.EndpointView.{buffers_in, rest_in}
use Rattle.spx_messages.specs.declared.arrived.Arrived.{Arrived}
use Rattle.spx_messages.specs.declared.arrived.Arrived.TheVariants as Arriveds
use Rattle.spx_messages.specs.declared.listening.Listener.{Listener}
use Rattle.spx_messages.specs.declared.parts.Part.{Part}
use Rattle.spx_messages.specs.declared.receive.reading.ConnectionPacket.{ConnectionPacket}

-- an SPX packet to this host
pub record IsTo (home : Home) (h : IpxHeader) : Type 0 where
  pub kind : h.kind ≡ spx_type
  pub node : h.to.node ≡ home.node
  pub network : (h.to.network ≡ home.network) ⊎ (h.to.network.0 ≡ 0)

-- the datagram is read as this
pub record IsRead (home : Home) (bytes : List ℕ) (r : ConnectionPacket) : Type 0 where
  pub packet : PacketView
  pub is : IsConnectionPacket packet r.header r.body.now bytes
  pub ours : IsTo home packet.header
  pub to : packet.header.to.socket ≡ r.to
  pub from : packet.header.from ≡ r.from

-- the datagram is an IPX packet that is not for this host
pub record IsElsewhere (home : Home) (bytes : List ℕ) : Type 0 where
  pub packet : PacketView
  pub is : BeginsWith bytes packet
  pub not : ¬ IsTo home packet.header

-- the datagram is an IPX packet for this host, whose body has a fault
pub record IsFaulty (home : Home) (bytes : List ℕ) (f : SpxFault) : Type 0 where
  pub packet : PacketView
  pub is : BeginsWith bytes packet
  pub ours : IsTo home packet.header
  pub fault : spx_fault packet.body ≡ Some f

-- why a datagram is not read
abbrev pub IsUnread : Home → List ℕ → Arrived → Type 0
IsUnread home bytes (Arriveds.Bad f) = ipx_fault bytes ≡ Some f
IsUnread home bytes Arriveds.NotOurs = IsElsewhere home bytes
IsUnread home bytes (Arriveds.BadSpx f) = IsFaulty home bytes f
IsUnread home bytes Arriveds.NoListener = ⊥
IsUnread home bytes Arriveds.NoRoom = ⊥
IsUnread home bytes Arriveds.Stranger = ⊥
IsUnread home bytes (Arriveds.Accepted id) = ⊥
IsUnread home bytes (Arriveds.Link id r) = ⊥

-- each id has the link that it had
pub record SameLinks (old new : LinksView) : Type 0 where
  pub links : (q : ℕ) → link_at new q ≡ link_at old q
  pub last : new.last ≡ old.last
  pub count : count_of new ≡ count_of old

-- the link of the id, between that socket and that address, read it
pub record IsReadBy (old new : LinksView) (r : ConnectionPacket) (id : ℕ) (answer : Received) : Type 0 where
  pub to : r.header.to_id ≡ id
  pub link : LinkView
  pub at : link_at old id ≡ Some link
  pub local : link.local ≡ r.to
  pub remote : link.remote ≡ r.from
  pub answer' : (receive_link link r.header r.body.now).0 ≡ answer
  pub read : answer ≢ Receiveds.Stranger
  pub changes : ChangesOnly old new id (receive_link link r.header r.body.now).1

-- there is no link for it, or the link does not read it
abbrev pub IsOfNobody : LinksView → ConnectionPacket → Type 0
IsOfNobody s r =
    (l : LinkView) → link_at s r.header.to_id ≡ Some l → l.local ≡ r.to → l.remote ≡ r.from
    → (receive_link l r.header r.body.now).0 ≡ Receiveds.Stranger

-- no link was accepted for a request from this address and connection id
abbrev pub IsNew : LinksView → ConnectionPacket → Type 0
IsNew s r = (id : ℕ) → ¬ IsAcceptedFrom s r.from r.header.from_id id

-- the partial message of an id is removed, and the others stay
pub record Forgets (old new : List Part) (id : ℕ) : Type 0 where
  pub gone : rest_in new id ≡ None
  pub others : (q : ℕ) → q ≢ id → rest_in new q ≡ rest_in old q

-- a repeated request: the link that was made for it must reply once more
pub record OwesReplyAgain (old new : LinksView) (r : ConnectionPacket) (id : ℕ) : Type 0 where
  pub least : IsLeast (IsAcceptedFrom old r.from r.header.from_id) id
  pub link : LinkView
  pub at : link_at old id ≡ Some link
  pub changes : ChangesOnly old new id (owe_reply_link link)

-- the socket of the request does not listen
pub record IsDeafTo (listening : List Listener) (s : LinksView) (r : ConnectionPacket) : Type 0 where
  pub new : IsNew s r
  pub no_listener : buffers_in listening r.to.0 ≡ None

-- the socket listens, and there are as many links as there may be
pub record IsFullFor (listening : List Listener) (s : LinksView) (r : ConnectionPacket) : Type 0 where
  pub new : IsNew s r
  pub buffers : ℕ
  pub listens : buffers_in listening r.to.0 ≡ Some buffers
  pub full : most_links ≤ count_of s

-- the socket listens, and there is space for a link
pub record IsOpenTo (listening : List Listener) (s : LinksView) (r : ConnectionPacket) : Type 0 where
  pub new : IsNew s r
  pub buffers : ℕ
  pub listens : buffers_in listening r.to.0 ≡ Some buffers
  pub room : count_of s < most_links

-- a link is made for the request, without a partial message
pub record Accepts (listening : List Listener) (old new : LinksView) (before after : List Part)
    (r : ConnectionPacket) (now id : ℕ) : Type 0 where
  pub room : IsOpenTo listening old r
  pub free : IsNextFree old id
  pub adds : Adds old new id (accepted_from id r.to r.from r.header room.buffers now)
  pub forgets : Forgets before after id

-- the links and the partial messages are unchanged
pub record Unasked (old new : LinksView) (before after : List Part) : Type 0 where
  pub links : new ≡ old
  pub parts : after ≡ before

-- the answer to a request, and its effect
abbrev pub IsAsked : List Listener → LinksView → LinksView → List Part → List Part → ConnectionPacket → ℕ
    → Arrived → Type 0
IsAsked listening old new before after r now (Arriveds.Bad f) = ⊥
IsAsked listening old new before after r now Arriveds.NotOurs = ⊥
IsAsked listening old new before after r now (Arriveds.BadSpx f) = ⊥
IsAsked listening old new before after r now Arriveds.NoListener =
    IsDeafTo listening old r × Unasked old new before after
IsAsked listening old new before after r now Arriveds.NoRoom =
    IsFullFor listening old r × Unasked old new before after
IsAsked listening old new before after r now Arriveds.Stranger = ⊥
IsAsked listening old new before after r now (Arriveds.Accepted id) =
    Accepts listening old new before after r now id
IsAsked listening old new before after r now (Arriveds.Link id answer) =
    OwesReplyAgain old new r id × (answer ≡ Receiveds.Repeat) × (after ≡ before)
