-- How the calls of a link change what it received and what it may send, and what its packets allow (Novell
-- SPX: the allocation number).
use Rattle.std.specs.Prelude.{ℕ, ◌+◌, ◌≤◌, ◌≡◌, ◌≢◌, List, ◌∷◌, length, Option, Some, None}
use Rattle.ipx_wire.specs.declared.spx.packet.SpxHeader.{SpxHeader}
use Rattle.spx_link.specs.declared.unit.Unit.{Unit}
use Rattle.spx_link.specs.declared.outgoing.Sent.{Sent}
use Rattle.spx_link.specs.declared.outgoing.Sent.TheVariants as Sents
use Rattle.spx_link.specs.declared.received.Received.TheVariants.{Stranger}
use Rattle.spx_link.specs.declared.state.State.TheVariants.{Opening, Live, Lost}
use Rattle.spx_link.specs.SequenceMarks.{mark, room_after}
use Rattle.spx_link.specs.LinkView.{LinkView}
use Rattle.spx_link.specs.Offer.{take_link}
use Rattle.spx_link.specs.Poll.{OutgoingView, allocation, poll_link}
use Rattle.spx_link.specs.Receive.{receive_link}

-- the same units were received
pub record SameReceived (l k : LinkView) : Type 0 where
  pub expected : k.expected ≡ l.expected
  pub held : k.held ≡ l.held
  pub ahead : k.ahead ≡ l.ahead
  pub buffers : k.buffers ≡ l.buffers

-- a unit that is sent for the first time uses up one that may be sent
abbrev pub SendsAs : Sent → LinkView → LinkView → Type 0
SendsAs Sents.Unit l k = k.room + 1 ≡ l.room
SendsAs Sents.Request l k = (k.room ≡ l.room) × (k.next ≡ l.next)
SendsAs Sents.Reply l k = (k.room ≡ l.room) × (k.next ≡ l.next)
SendsAs Sents.Confirm l k = (k.room ≡ l.room) × (k.next ≡ l.next)
SendsAs Sents.Again l k = (k.room ≡ l.room) × (k.next ≡ l.next)
SendsAs Sents.Ack l k = (k.room ≡ l.room) × (k.next ≡ l.next)
SendsAs Sents.Probe l k = (k.room ≡ l.room) × (k.next ≡ l.next)

abbrev pub GivesAs : LinkView → Option OutgoingView → LinkView → Type 0
GivesAs l None k = (k.room ≡ l.room) × (k.next ≡ l.next)
GivesAs l (Some g) k = (g.header.limit ≡ allocation l) × SendsAs g.what l k

-- the link after a poll
pub record AfterPoll (l : LinkView) (r : Option OutgoingView × LinkView) : Type 0 where
  pub same : SameReceived l r.1
  pub gives : GivesAs l r.0 r.1

-- so many units were taken: the expected number is the one after those and the held ones
pub record HasTakenAndFits (taken : ℕ) (l : LinkView) : Type 0 where
  pub expected : l.expected ≡ mark (taken + length l.held)
  pub fits : length l.held + length l.ahead ≤ l.buffers

-- the link after an opening one reads a packet: it joins
pub record JoinsBy (l : LinkView) (h : SpxHeader) (k : LinkView) : Type 0 where
  pub same : SameReceived l k
  pub room : k.room ≡ room_after l.next l.room h.limit
  pub next : k.next ≡ l.next
  pub live : k.state ≡ Live

-- a unit is taken
pub record Took (l : LinkView) (u : Unit) (k : LinkView) : Type 0 where
  pub held : l.held ≡ u ∷ k.held
  pub expected : k.expected ≡ l.expected
  pub ahead : k.ahead ≡ l.ahead
  pub buffers : k.buffers ≡ l.buffers
  pub state : k.state ≡ l.state

pub record AllowanceLaws : Type 0 where
  pub polls : (l : LinkView) (now : ℕ) → AfterPoll l (poll_link l now)
  pub receives : (l : LinkView) (h : SpxHeader) (body : List ℕ) (taken : ℕ)
      → HasTakenAndFits taken l → HasTakenAndFits taken (receive_link l h body).1
  pub buffers : (l : LinkView) (h : SpxHeader) (body : List ℕ)
      → (receive_link l h body).1.buffers ≡ l.buffers
  pub joins : (l : LinkView) (h : SpxHeader) (body : List ℕ)
      → l.state ≡ Opening → (receive_link l h body).0 ≢ Stranger
      → JoinsBy l h (receive_link l h body).1
  pub takes : (l : LinkView) (u : Unit) → (take_link l).0 ≡ Some u → Took l u (take_link l).1
  -- a lost link gives nothing, changes nothing and reads nothing
  pub lost_polls : (l : LinkView) (now : ℕ) → l.state ≡ Lost → poll_link l now ≡ (None, l)
  pub lost_reads : (l : LinkView) (h : SpxHeader) (body : List ℕ)
      → l.state ≡ Lost → (receive_link l h body).0 ≡ Stranger
