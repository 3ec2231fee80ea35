-- A confirmed link (Novell SPX: the end of a connection and its confirmation) has queued its end, and its
-- queue is empty: how the calls of a link change that, and what it holds.
use Rattle.std.specs.Prelude.{ℕ, ◌≡◌, ◌≢◌, ◌⊎◌, true, List, [], length, Option, Some}
use Rattle.ipx_wire.specs.declared.spx.packet.SpxHeader.{SpxHeader}
use Rattle.spx_link.specs.declared.unit.Unit.{Unit}
use Rattle.spx_link.specs.declared.state.State.TheVariants as States
use Rattle.spx_link.specs.declared.received.Received.{Received}
use Rattle.spx_link.specs.declared.received.Received.TheVariants.{Joined}
use Rattle.spx_link.specs.LinkView.{LinkView}
use Rattle.spx_link.specs.Offer.{take_link}
use Rattle.spx_link.specs.Poll.{poll_link}
use Rattle.spx_link.specs.Receive.{receive_link}

-- its end is queued, and everything that it sent is acknowledged
abbrev pub HasAllAcknowledged : LinkView → Type 0
HasAllAcknowledged l = (l.end_queued ≡ true) × (length l.queue ≡ 0)

-- if it is confirmed, it is done
abbrev pub ConfirmedIsDone : LinkView → Type 0
ConfirmedIsDone l = l.state ≡ States.Confirmed → HasAllAcknowledged l

-- the link after a poll
pub record PollLeaves (l k : LinkView) : Type 0 where
  pub held : k.held ≡ l.held
  pub queued : k.end_queued ≡ l.end_queued
  pub queue : length k.queue ≡ length l.queue
  pub state : (k.state ≡ l.state) ⊎ (k.state ≡ States.Lost)

-- the link after a read: a reply that joins carries no unit
pub record ReadLeaves (l : LinkView) (r : Received × LinkView) : Type 0 where
  pub queued : r.1.end_queued ≡ l.end_queued
  pub right : ConfirmedIsDone l → ConfirmedIsDone r.1
  pub joins : r.0 ≡ Joined → (r.1.held ≡ l.held) × (r.1.state ≡ States.Live)

-- the link after a take
pub record TakeLeaves (l : LinkView) (r : Option Unit × LinkView) : Type 0 where
  pub queued : r.1.end_queued ≡ l.end_queued
  pub queue : r.1.queue ≡ l.queue
  pub state : r.1.state ≡ l.state

pub record CloseLaws : Type 0 where
  pub polls : (l : LinkView) (now : ℕ) → PollLeaves l (poll_link l now).1
  pub receives : (l : LinkView) (h : SpxHeader) (body : List ℕ) → ReadLeaves l (receive_link l h body)
  pub takes : (l : LinkView) → TakeLeaves l (take_link l)
  pub takes_held : (l : LinkView) (u : Unit) → (take_link l).0 ≡ Some u → l.held ≢ []
