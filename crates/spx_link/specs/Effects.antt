-- What the calls of a link do to its numbers, and to the ids and addresses of its two ends. Times and
-- retransmission counts are left out.
use Rattle.std.specs.Prelude.{◌≡◌, ⊤, ℕ, Bool, true, ◌+◌, ◌-◌, ◌<◌, [], Option, Some, None}
use Rattle.ipx_wire.specs.declared.spx.packet.SpxHeader.{SpxHeader}
use Rattle.ipx_wire.specs.declared.address.Socket.{Socket}
use Rattle.ipx_wire.specs.declared.address.Address.{Address}
use Rattle.spx_link.specs.declared.numbers.Numbers.{Numbers}
use Rattle.spx_link.specs.declared.outgoing.Sent.{Sent}
use Rattle.spx_link.specs.declared.outgoing.Sent.TheVariants as Sents
use Rattle.spx_link.specs.declared.received.Received.{Received}
use Rattle.spx_link.specs.declared.received.Received.TheVariants.{Joined, Kept, Repeat, Ahead}
use Rattle.spx_link.specs.declared.received.Received.TheVariants.{OverAllocation, System, PeerEnded}
use Rattle.spx_link.specs.declared.received.Received.TheVariants.{Confirmed, Stranger}
use Rattle.spx_link.specs.declared.state.State.TheVariants.{Opening, Live}
use Rattle.spx_link.specs.Limits.{no_id}
use Rattle.spx_link.specs.LinkView.{LinkView}
use Rattle.spx_link.specs.SequenceMarks.{mark, outstanding_after, room_after}
use Rattle.spx_link.specs.Poll.{OutgoingView}
use Rattle.spx_link.specs.Receive.{is_system}

-- ---- a poll

-- a unit that is sent for the first time takes a number and one unit of room, and becomes outstanding
abbrev pub numbers_after_sent : Sent → Numbers → Numbers
numbers_after_sent Sents.Request n = n
numbers_after_sent Sents.Reply n = n
numbers_after_sent Sents.Confirm n = n
numbers_after_sent Sents.Unit n =
    record n { next = mark (n.next + 1); out = n.out + 1; room = n.room - 1 }
numbers_after_sent Sents.Again n = n
numbers_after_sent Sents.Ack n = n
numbers_after_sent Sents.Probe n = n

abbrev pub numbers_after_poll : Option OutgoingView → Numbers → Numbers
numbers_after_poll None n = n
numbers_after_poll (Some o) n = numbers_after_sent o.what n

-- ---- a packet

abbrev pub numbers_read : SpxHeader → Numbers → Numbers
numbers_read h n =
    record n { out = outstanding_after n.next n.out h.ack; room = room_after n.next n.room h.limit }

-- so many more units are held
abbrev pub more_held : ℕ → Numbers → Numbers
more_held count n = record n { expected = mark (n.expected + count); held = n.held + count }

-- after an answer to a packet. If its unit is kept, `count` units become held
abbrev pub numbers_after_received : Received → ℕ → SpxHeader → Numbers → Numbers
numbers_after_received Joined count h n = numbers_read h n
numbers_after_received Kept count h n = more_held count (numbers_read h n)
numbers_after_received Repeat count h n = numbers_read h n
numbers_after_received Ahead count h n = numbers_read h n
numbers_after_received OverAllocation count h n = numbers_read h n
numbers_after_received System count h n = numbers_read h n
numbers_after_received PeerEnded count h n = more_held count (numbers_read h n)
numbers_after_received Confirmed count h n = numbers_read h n
numbers_after_received Stranger count h n = n

-- ---- a take

-- if a unit is held, one fewer is
abbrev pub numbers_after_take : Numbers → Numbers
numbers_after_take n = record n { held = n.held - 1 }

-- ---- the ids and addresses

-- the link's own id, local socket and remote address never change, nor does which side asked
pub record SameEnds (old new : LinkView) : Type 0 where
  pub own : new.own ≡ old.own
  pub local : new.local ≡ old.local
  pub remote : new.remote ≡ old.remote
  pub accepted : new.accepted ≡ old.accepted

-- nor does the peer's id
pub record SamePeer (old new : LinkView) : Type 0 where
  pub ends : SameEnds old new
  pub peer : new.peer ≡ old.peer

-- the ids and addresses of a new link, and whether the other side requested it
pub record HasEnds (l : LinkView) (id : ℕ) (socket : Socket) (address : Address) (peer_id : ℕ)
    (was_asked : Bool) : Type 0 where
  pub own : l.own ≡ id
  pub local : l.local ≡ socket
  pub remote : l.remote ≡ address
  pub peer : l.peer ≡ peer_id
  pub accepted : l.accepted ≡ was_asked

-- a link that joins was opening, and becomes live with the id that the reply came from. The reply was to the
-- link's own id, and carries no unit
pub record Joins (old new : LinkView) (h : SpxHeader) : Type 0 where
  pub before : old.state ≡ Opening
  pub after : new.state ≡ Live
  pub to : h.to_id ≡ old.own
  pub peer : new.peer ≡ h.from_id
  pub above : 0 < h.from_id
  pub below : h.from_id < no_id
  pub unit : is_system h ≡ true

-- a request, which names no peer id
pub record IsRequest (o : OutgoingView) : Type 0 where
  pub what : o.what ≡ Sents.Request
  pub to : o.header.to_id ≡ no_id
  pub body : o.body ≡ []

abbrev pub IfRequest : Option OutgoingView → Type 0
IfRequest None = ⊤
IfRequest (Some o) = IsRequest o
