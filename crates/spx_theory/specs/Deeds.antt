-- Deeds: everything that can happen to ends and parcels, one at a time, and the scenes that they reach.
use Rattle.std.specs.Prelude.{ℕ, ◌≡◌, ◌≢◌, ◌<◌, ◌≤◌, Bool, true, false, List, [], ◌∷◌, ◌++◌, length, Some, None, slice_get}
use Rattle.ipx_wire.specs.declared.address.Network.{Network}
use Rattle.ipx_wire.specs.declared.address.Socket.{Socket}
use Rattle.ipx_wire.specs.declared.address.Address.{Address}
use Rattle.ipx_wire.specs.declared.spx.packet.SpxHeader.{SpxHeader}
use Rattle.ipx_wire.specs.Ipx.{PacketView, IsIpx}
use Rattle.spx_link.specs.declared.unit.Unit.{Unit}
use Rattle.spx_link.specs.Limits.{end_stream, no_id, most_units}
use Rattle.spx_link.specs.LinkView.{LinkView}
use Rattle.spx_link.specs.Poll.{OutgoingView, poll_link}
use Rattle.spx_link.specs.Receive.{receive_link}
use Rattle.spx_link.specs.Offer.{refusal, offer_link, end_link, take_link, owe_reply_link, lose_link, pace_link, again_link, dialed, accepted_from}
use Rattle.spx_messages.specs.Message.{MessageView, most_bytes}
use Rattle.spx_messages.specs.Joining.{Joining, join_unit, added}
use Rattle.spx_messages.specs.Cut.{cut_of}
use Rattle.ipx_wire.specs.Connection.{IsConnectionPacket}
use Rattle.spx_theory.specs.Note.{Opened, Accepted, HandsIn, TakesUnit, AsksEnd, Got, Released, Told, Carried, Injected}
use Rattle.spx_link.specs.declared.received.Received.TheVariants as Receiveds
use Rattle.spx_theory.specs.PacketsOnWay.{IsFor, IsOneOn, note_of, notes_of, out_notes}
use Rattle.spx_theory.specs.Scene.{IsFreeId, Scene, PresentEnd, IsPresent, linked, with_entries, put_end, sent_off}
use Rattle.spx_messages.specs.WrittenPackets.{Home, IsRequestFor, IsWrittenPacket}

pub data Deed : Type 0 where
  -- an end is opened, or made by a request
  Dials : (host id : ℕ) → Socket → Address → (buffers now : ℕ) → Deed
  Accepts : (host id : ℕ) → Socket → (parcel buffers now : ℕ) → Deed
  -- a link reads a parcel
  Reads : (who parcel : ℕ) → Deed
  -- a request is repeated
  OwesReply : (who : ℕ) → Deed
  -- a link gets a window and retransmits by time or manually, or is asked to retransmit at an index
  Paces : (who window : ℕ) → (manual : Bool) → Deed
  AsksAgain : (who place : ℕ) → Deed
  -- a link is polled, and gives a packet or nothing
  Gives : (who now : ℕ) → (segment : Network) → List ℕ → Deed
  Rests : (who now : ℕ) → Deed
  -- the calls on an end
  Sends : (who : ℕ) → MessageView → Deed
  Takes : (who : ℕ) → Unit → Deed
  Overruns : (who : ℕ) → Unit → Deed
  Closes : (who : ℕ) → Deed
  Releases : (who : ℕ) → Deed
  -- parcels of others
  Carries : (from : ℕ) → (network segment : Network) → List ℕ → Deed
  Tells : (router : ℕ) → (segment : Network) → List ℕ → Deed
  Injects : (segment : Network) → List ℕ → Deed

-- an end is opened: no other of its host has its id
pub record DoesDial (host id : ℕ) (socket : Socket) (to : Address) (buffers now : ℕ)
    (s s' : Scene) : Type 0 where
  pub there : (h : Home) × (slice_get s.homes host ≡ Some h)
  pub free : IsFreeId s host id
  pub above : 0 < id
  pub below : id < no_id
  pub range : (0 < buffers) × (buffers ≤ most_units)
  pub after : s' ≡ record s {
    ends = s.ends ++ record {
      host = host;
      own = id;
      link = Some (dialed id socket to buffers now);
      rest = None;
      overlong = false;
    } ∷ [];
    log = s.log ++ Opened (length s.ends) host buffers ∷ [];
  }

-- a request makes an end, which reads it
pub record DoesAccept (host id : ℕ) (socket : Socket) (parcel buffers now : ℕ)
    (s s' : Scene) : Type 0 where
  pub bytes : List ℕ
  pub packet : PacketView
  pub header : SpxHeader
  pub body : List ℕ
  pub comes : slice_get s.parcels parcel ≡ Some bytes
  pub reads : IsConnectionPacket packet header body bytes
  pub request : IsRequestFor header
  pub there : (h : Home) × (slice_get s.homes host ≡ Some h)
  pub home : (h : Home) → slice_get s.homes host ≡ Some h → IsFor h socket packet.header.from packet
  pub free : IsFreeId s host id
  pub above : 0 < id
  pub below : id < no_id
  pub range : (0 < buffers) × (buffers ≤ most_units)
  pub after : s' ≡ record s {
    ends = s.ends ++ record {
      host = host;
      own = id;
      link = Some (accepted_from id socket packet.header.from header buffers now);
      rest = None;
      overlong = false;
    } ∷ [];
    log = s.log
        ++ Accepted (length s.ends) parcel buffers ∷ Got (length s.ends) parcel ∷ [];
  }

-- a link reads a parcel that is for its host and its socket, from its remote address
pub record DoesRead (who parcel : ℕ) (s s' : Scene) : Type 0 where
  pub stand : PresentEnd
  pub link : LinkView
  pub bytes : List ℕ
  pub packet : PacketView
  pub header : SpxHeader
  pub body : List ℕ
  pub stands : IsPresent s who stand link
  pub comes : slice_get s.parcels parcel ≡ Some bytes
  pub reads : IsConnectionPacket packet header body bytes
  pub home : (h : Home) → slice_get s.homes stand.host ≡ Some h
      → IsFor h link.local link.remote packet
  pub read : (receive_link link header body).0 ≢ Receiveds.Stranger
  pub after : s' ≡ with_entries (put_end s who (linked stand (receive_link link header body).1))
      (notes_of (receive_link link header body).0 who parcel)

-- a link changes by one of its functions, without an entry
pub record DoesSilently (f : LinkView → LinkView) (who : ℕ) (s s' : Scene) : Type 0 where
  pub stand : PresentEnd
  pub link : LinkView
  pub stands : IsPresent s who stand link
  pub after : s' ≡ put_end s who (linked stand (f link))

-- a link is polled, and gives a packet, which is written
pub record DoesGive (who now : ℕ) (segment : Network) (bytes : List ℕ) (s s' : Scene) : Type 0 where
  pub stand : PresentEnd
  pub link : LinkView
  pub given : OutgoingView
  pub stands : IsPresent s who stand link
  pub gives : (poll_link link now).0 ≡ Some given
  pub home : Home
  pub home_is : slice_get s.homes stand.host ≡ Some home
  pub segment_is : segment ≡ home.network
  pub written : IsWrittenPacket home link given bytes
  pub after : s' ≡ sent_off (put_end s who (linked stand (poll_link link now).1)) segment bytes
      (note_of given.what who (length s.parcels))

-- a link is polled and gives nothing, and may change (for example, it becomes lost)
pub record DoesRest (who now : ℕ) (s s' : Scene) : Type 0 where
  pub stand : PresentEnd
  pub link : LinkView
  pub stands : IsPresent s who stand link
  pub gives : (poll_link link now).0 ≡ None
  pub after : s' ≡ put_end s who (linked stand (poll_link link now).1)

-- a message is accepted
pub record DoesSend (who : ℕ) (m : MessageView) (s s' : Scene) : Type 0 where
  pub stand : PresentEnd
  pub link : LinkView
  pub stands : IsPresent s who stand link
  pub live : refusal link.state ≡ None
  pub stream : m.stream < end_stream
  pub short : length m.body ≤ most_bytes
  pub after : s' ≡ with_entries (put_end s who (linked stand (offer_link link (cut_of m))))
      (HandsIn who m ∷ [])

-- the end of the connection is asked for
pub record DoesClose (who : ℕ) (s s' : Scene) : Type 0 where
  pub stand : PresentEnd
  pub link : LinkView
  pub stands : IsPresent s who stand link
  pub live : refusal link.state ≡ None
  pub after : s' ≡ with_entries (put_end s who (linked stand (end_link link))) (AsksEnd who ∷ [])

-- a unit is taken and joined to the partial message
pub record DoesTake (who : ℕ) (u : Unit) (s s' : Scene) : Type 0 where
  pub stand : PresentEnd
  pub link : LinkView
  pub stands : IsPresent s who stand link
  pub gives : (take_link link).0 ≡ Some u
  pub joins : Joining
  pub joined : joins ≡ join_unit (record { messages = []; rest = stand.rest }) u
  pub short : (u.stream ≢ end_stream) → length (added stand.rest u).body ≤ most_bytes
  pub after : s' ≡ with_entries
      (put_end s who (record (linked stand (take_link link).1) { rest = joins.rest }))
      (TakesUnit who u ∷ out_notes who joins.messages)

-- a message has more than 65,535 bytes: the unit, the message and the link are lost. There is no entry
pub record DoesOverrun (who : ℕ) (u : Unit) (s s' : Scene) : Type 0 where
  pub stand : PresentEnd
  pub link : LinkView
  pub stands : IsPresent s who stand link
  pub gives : (take_link link).0 ≡ Some u
  pub data' : u.stream ≢ end_stream
  pub long : most_bytes < length (added stand.rest u).body
  pub after : s' ≡ put_end s who (record {
    host = stand.host;
    own = stand.own;
    link = Some (lose_link (take_link link).1);
    rest = None;
    overlong = true;
  })

-- the end's link and its partial message are removed
pub record DoesRelease (who : ℕ) (s s' : Scene) : Type 0 where
  pub stand : PresentEnd
  pub link : LinkView
  pub stands : IsPresent s who stand link
  pub after : s' ≡ with_entries (put_end s who (record stand { link = None; rest = None })) (Released who ∷ [])

-- a router forwards a parcel by one hop
pub record DoesCarry (from : ℕ) (network segment : Network) (bytes : List ℕ)
    (s s' : Scene) : Type 0 where
  pub old : List ℕ
  pub comes : slice_get s.parcels from ≡ Some old
  pub at : slice_get s.segments from ≡ Some network
  pub on : IsOneOn network old bytes
  pub after : s' ≡ sent_off s segment bytes (Carried from (length s.parcels))

-- a router sends a packet that it made itself, of another type than 5
pub record DoesTell (router : ℕ) (segment : Network) (bytes : List ℕ) (s s' : Scene) : Type 0 where
  pub packet : PacketView
  pub is : IsIpx packet bytes []
  pub kind : packet.header.kind ≢ 5
  pub after : s' ≡ sent_off s segment bytes (Told router (length s.parcels))

-- a deed changes one scene into another
abbrev pub DoesDeed : Deed → Scene → Scene → Type 0
DoesDeed (Dials host id socket to buffers now) s s' = DoesDial host id socket to buffers now s s'
DoesDeed (Accepts host id socket parcel buffers now) s s' =
    DoesAccept host id socket parcel buffers now s s'
DoesDeed (Reads who parcel) s s' = DoesRead who parcel s s'
DoesDeed (OwesReply who) s s' = DoesSilently owe_reply_link who s s'
DoesDeed (Paces who window manual) s s' = DoesSilently (λ l. pace_link l window manual) who s s'
DoesDeed (AsksAgain who place) s s' = DoesSilently (λ l. again_link l place) who s s'
DoesDeed (Gives who now segment bytes) s s' = DoesGive who now segment bytes s s'
DoesDeed (Rests who now) s s' = DoesRest who now s s'
DoesDeed (Sends who m) s s' = DoesSend who m s s'
DoesDeed (Takes who u) s s' = DoesTake who u s s'
DoesDeed (Overruns who u) s s' = DoesOverrun who u s s'
DoesDeed (Closes who) s s' = DoesClose who s s'
DoesDeed (Releases who) s s' = DoesRelease who s s'
DoesDeed (Carries from network segment bytes) s s' = DoesCarry from network segment bytes s s'
DoesDeed (Tells router segment bytes) s s' = DoesTell router segment bytes s s'
DoesDeed (Injects segment bytes) s s' = s' ≡ sent_off s segment bytes (Injected (length s.parcels))

-- a scene without ends and parcels, whose hosts' networks are not 0
pub record IsBegun (s : Scene) : Type 0 where
  pub homes : (k : ℕ) (h : Home) → slice_get s.homes k ≡ Some h → h.network.0 ≢ 0
  pub ends : s.ends ≡ []
  pub parcels : s.parcels ≡ []
  pub segments : s.segments ≡ []
  pub log : s.log ≡ []

-- the scenes of every theorem: those that some list of deeds reaches
pub data Reached : Scene → Type 0 where
  begun : {s : Scene} → IsBegun s → Reached s
  happened : {new : Scene} (old : Scene) (deed : Deed)
      → Reached old → DoesDeed deed old new → Reached new
