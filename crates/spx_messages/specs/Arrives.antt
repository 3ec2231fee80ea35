-- How an endpoint handles a datagram, and its answer, by the first case that holds (Novell IPX and SPX).
use Rattle.std.specs.Prelude.{ℕ, ◌≡◌, ◌≢◌, ◌<◌, ◌≤◌, ◌⊎◌, List, Some, None}
use Rattle.ipx_wire.specs.Assigned.{spx_type}
use Rattle.ipx_wire.specs.Ipx.{PacketView, BeginsWith, ipx_fault}
use Rattle.ipx_wire.specs.Spx.{spx_fault}
use Rattle.ipx_wire.specs.declared.spx.packet.SpxHeader.{SpxHeader}
use Rattle.ipx_wire.specs.declared.spx.fault.SpxFault.{SpxFault}
use Rattle.spx_link.specs.declared.received.Received.{Received}
use Rattle.spx_link.specs.Limits.{most_links}
use Rattle.spx_link.specs.LinkView.{LinkView}
use Rattle.spx_link.specs.Links.{link_at, count_of, IsNextFree, IsAcceptedFrom, IsLeast}
use Rattle.spx_link.specs.Receive.{receive_link}
use Rattle.spx_link.specs.Offer.{owe_reply_link, accepted_from}
use Rattle.ipx_wire.specs.Connection.{IsConnectionPacket}
use Rattle.spx_messages.specs.WrittenPackets.{IsRequestFor}
use Rattle.spx_messages.specs.Changes.{AddsEnd, ChangesEnd, SameBut}
use Rattle.spx_messages.specs.EndpointView.{EndpointView, Held, buffers_at, held_at}
use Rattle.spx_messages.specs.declared.arrived.Arrived.{Arrived}
use Rattle.spx_link.specs.declared.received.Received.TheVariants as Receiveds
use Rattle.spx_messages.specs.declared.arrived.Arrived.TheVariants as Arriveds

-- an SPX packet to this host
pub record IsOurs (e : EndpointView) (p : PacketView) : Type 0 where
  pub kind : p.header.kind ≡ spx_type
  pub node : p.header.to.node ≡ e.node
  pub network : (p.header.to.network ≡ e.network) ⊎ (p.header.to.network.0 ≡ 0)

-- nothing changes, and no link read it
pub record Unheard (old new : EndpointView) : Type 0 where
  pub same : SameBut old new
  pub heard : new.heard ≡ None

pub record IsNotOurs (e : EndpointView) (bytes : List ℕ) : Type 0 where
  pub packet : PacketView
  pub is : BeginsWith bytes packet
  pub not : ¬ IsOurs e packet

pub record IsBadSpx (e : EndpointView) (bytes : List ℕ) (f : SpxFault) : Type 0 where
  pub packet : PacketView
  pub is : BeginsWith bytes packet
  pub ours : IsOurs e packet
  pub fault : spx_fault packet.body ≡ Some f

-- the SPX packet that the datagram is read as
pub record Comes (e : EndpointView) (p : PacketView) (h : SpxHeader)
    (body bytes : List ℕ) : Type 0 where
  pub is : IsConnectionPacket p h body bytes
  pub ours : IsOurs e p

-- a request for which no link was made yet
pub record IsNewRequest (e : EndpointView) (p : PacketView) (h : SpxHeader)
    (body bytes : List ℕ) : Type 0 where
  pub comes : Comes e p h body bytes
  pub request : IsRequestFor h
  pub new : (id : ℕ) → ¬ IsAcceptedFrom e.links p.header.from h.from_id id

pub record IsUnheard (e : EndpointView) (bytes : List ℕ) : Type 0 where
  pub packet : PacketView
  pub header : SpxHeader
  pub body : List ℕ
  pub asks : IsNewRequest e packet header body bytes
  pub no_listener : buffers_at e packet.header.to.socket ≡ None

pub record IsOneTooMany (e : EndpointView) (bytes : List ℕ) : Type 0 where
  pub packet : PacketView
  pub header : SpxHeader
  pub body : List ℕ
  pub asks : IsNewRequest e packet header body bytes
  pub buffers : ℕ
  pub listens : buffers_at e packet.header.to.socket ≡ Some buffers
  pub full : most_links ≤ count_of e.links

-- a new request to a socket that listens, with space for its link
pub record IsAcceptable (e : EndpointView) (bytes : List ℕ) : Type 0 where
  pub packet : PacketView
  pub header : SpxHeader
  pub body : List ℕ
  pub asks : IsNewRequest e packet header body bytes
  pub buffers : ℕ
  pub listens : buffers_at e packet.header.to.socket ≡ Some buffers
  pub room : count_of e.links < most_links

-- a link is made for the request
pub record IsAccepted (old : EndpointView) (bytes : List ℕ) (now id : ℕ)
    (new : EndpointView) : Type 0 where
  pub packet : PacketView
  pub header : SpxHeader
  pub body : List ℕ
  pub asks : IsNewRequest old packet header body bytes
  pub buffers : ℕ
  pub listens : buffers_at old packet.header.to.socket ≡ Some buffers
  pub room : count_of old.links < most_links
  pub free : IsNextFree old.links id
  pub adds : AddsEnd old new id
      (accepted_from id packet.header.to.socket packet.header.from header buffers now)
  pub heard : new.heard ≡ None

-- a repeated request: the link that was made for it must reply once more
pub record IsAskedAgain (old : EndpointView) (bytes : List ℕ) (id : ℕ)
    (new : EndpointView) : Type 0 where
  pub packet : PacketView
  pub header : SpxHeader
  pub body : List ℕ
  pub comes : Comes old packet header body bytes
  pub request : IsRequestFor header
  pub least : IsLeast (IsAcceptedFrom old.links packet.header.from header.from_id) id
  pub held : Held
  pub at : held_at old id ≡ Some held
  pub changes : ChangesEnd old new id (record held { link = owe_reply_link held.link })
  pub heard : new.heard ≡ None

-- the link of the id, between that socket and that address, read it
pub record IsHeard (old : EndpointView) (bytes : List ℕ) (id : ℕ) (r : Received)
    (new : EndpointView) : Type 0 where
  pub packet : PacketView
  pub header : SpxHeader
  pub body : List ℕ
  pub comes : Comes old packet header body bytes
  pub other : ¬ IsRequestFor header
  pub to : header.to_id ≡ id
  pub held : Held
  pub at : held_at old id ≡ Some held
  pub local : held.link.local ≡ packet.header.to.socket
  pub remote : held.link.remote ≡ packet.header.from
  pub answer : (receive_link held.link header body).0 ≡ r
  pub read : r ≢ Receiveds.Stranger
  pub changes : ChangesEnd old new id
      (record held { link = (receive_link held.link header body).1 })
  pub heard : new.heard ≡ Some id

-- there is no link for it, or the link does not read it
pub record IsStrange (e : EndpointView) (bytes : List ℕ) : Type 0 where
  pub packet : PacketView
  pub header : SpxHeader
  pub body : List ℕ
  pub comes : Comes e packet header body bytes
  pub other : ¬ IsRequestFor header
  pub none : (l : LinkView) → link_at e.links header.to_id ≡ Some l
      → l.local ≡ packet.header.to.socket → l.remote ≡ packet.header.from
      → (receive_link l header body).0 ≡ Receiveds.Stranger

abbrev pub Answers : EndpointView → List ℕ → ℕ → Arrived → EndpointView → Type 0
Answers old bytes now (Arriveds.Bad f) new = (ipx_fault bytes ≡ Some f) × Unheard old new
Answers old bytes now Arriveds.NotOurs new = IsNotOurs old bytes × Unheard old new
Answers old bytes now (Arriveds.BadSpx f) new = IsBadSpx old bytes f × Unheard old new
Answers old bytes now Arriveds.NoListener new = IsUnheard old bytes × Unheard old new
Answers old bytes now Arriveds.NoRoom new = IsOneTooMany old bytes × Unheard old new
Answers old bytes now Arriveds.Stranger new = IsStrange old bytes × Unheard old new
Answers old bytes now (Arriveds.Accepted id) new = IsAccepted old bytes now id new
Answers old bytes now (Arriveds.Link id r) new =
    (IsAskedAgain old bytes id new × (r ≡ Receiveds.Repeat)) ⊎ IsHeard old bytes id r new

pub record Arrives (old : EndpointView) (bytes : List ℕ) (now : ℕ) (answer : Arrived)
    (new : EndpointView) : Type 0 where
  pub answers : Answers old bytes now answer new
  pub said : new.said ≡ old.said
