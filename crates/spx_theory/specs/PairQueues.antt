-- How the calls of a link change the units that it has to send, and how many of them it sent. (There is no
-- premise: whatever was read.)
use Rattle.std.specs.Prelude.{ℕ, ◌≡◌, ◌<◌, ◌≤◌, ◌+◌, ◌++◌, Bool, false, List, [], ◌∷◌, length, drop, Option, None, Some, slice_get}
use Rattle.ipx_wire.specs.declared.address.Socket.{Socket}
use Rattle.ipx_wire.specs.declared.address.Address.{Address}
use Rattle.ipx_wire.specs.declared.spx.packet.SpxHeader.{SpxHeader}
use Rattle.spx_link.specs.declared.unit.Unit.{Unit}
use Rattle.spx_link.specs.declared.outgoing.Sent.{Sent}
use Rattle.spx_link.specs.declared.outgoing.Sent.TheVariants as Sents
use Rattle.spx_link.specs.Limits.{most_units, end_stream}
use Rattle.spx_link.specs.LinkView.{LinkView}
use Rattle.spx_link.specs.SequenceMarks.{mark}
use Rattle.spx_link.specs.Units.{queued_units, unit_in}
use Rattle.spx_link.specs.Poll.{OutgoingView, poll_link}
use Rattle.spx_link.specs.Receive.{is_system, receive_link}
use Rattle.spx_link.specs.Offer.{refusal, offer_link, end_link, take_link, owe_reply_link, lose_link, pace_link, again_link, dialed, accepted_from, the_end}
use Rattle.spx_theory.specs.Tracks.{Formed, IsOpen}

-- the first n of these units were sent, and the queue holds those from `base` on, of which the
-- first `out` were sent
pub record SendsFrom (l : LinkView) (units : List Unit) (n : ℕ) : Type 0 where
  pub base : ℕ
  pub next : l.next ≡ mark n
  pub out : base + l.out ≡ n
  pub queue : queued_units l ≡ drop base units
  pub some : n ≤ length units
  pub window : l.out ≤ most_units

-- the link of an end with these units, n of which were sent
pub record Queues (l : LinkView) (units : List Unit) (n : ℕ) : Type 0 where
  pub from : SendsFrom l units n
  pub formed : Formed units l.end_queued
  pub open' : IsOpen l

-- the packet carries the unit of this position, and cannot be read as another one
pub record GivesUnit (g : OutgoingView) (units : List Unit) (k : ℕ) : Type 0 where
  pub u : Unit
  pub there : slice_get units k ≡ Some u
  pub unit : unit_in g.header g.body ≡ u
  pub whole : g.body ≡ u.body.items
  pub reads : is_system g.header ≡ false
  pub number : g.header.seq ≡ mark k

-- what is given when the link becomes m
abbrev pub IsGivenOut : Sent → OutgoingView → LinkView → List Unit → ℕ → Type 0
IsGivenOut Sents.Request g m units n = SendsFrom m units n
IsGivenOut Sents.Reply g m units n = SendsFrom m units n
IsGivenOut Sents.Confirm g m units n = SendsFrom m units n
IsGivenOut Sents.Unit g m units n = SendsFrom m units (n + 1) × GivesUnit g units n
IsGivenOut Sents.Again g m units n =
    SendsFrom m units n × ((k : ℕ) × (k < n) × (n ≤ k + most_units) × GivesUnit g units k)
IsGivenOut Sents.Ack g m units n = SendsFrom m units n
IsGivenOut Sents.Probe g m units n = SendsFrom m units n

abbrev pub PolledFrom : Option OutgoingView → LinkView → List Unit → ℕ → Type 0
PolledFrom None m units n = SendsFrom m units n
PolledFrom (Some g) m units n = IsGivenOut g.what g m units n

pub record PollsFrom (units : List Unit) (n : ℕ) (l : LinkView) (now : ℕ) : Type 0 where
  pub to : PolledFrom (poll_link l now).0 (poll_link l now).1 units n
  pub formed : Formed units (poll_link l now).1.end_queued
  pub open' : IsOpen (poll_link l now).1

pub record QueueLaws : Type 0 where
  pub polls : (units : List Unit) (n : ℕ) (l : LinkView) (now : ℕ)
      → Queues l units n → PollsFrom units n l now
  pub receives : (l : LinkView) (h : SpxHeader) (body : List ℕ) (units : List Unit) (n : ℕ)
      → Queues l units n → Queues (receive_link l h body).1 units n
  pub takes : (l : LinkView) (units : List Unit) (n : ℕ)
      → Queues l units n → Queues (take_link l).1 units n
  pub owes : (l : LinkView) (units : List Unit) (n : ℕ)
      → Queues l units n → Queues (owe_reply_link l) units n
  pub loses : (l : LinkView) (units : List Unit) (n : ℕ)
      → Queues l units n → Queues (lose_link l) units n
  pub paces : (l : LinkView) (window : ℕ) (manual : Bool) (units : List Unit) (n : ℕ)
      → Queues l units n → Queues (pace_link l window manual) units n
  pub asks : (l : LinkView) (place : ℕ) (units : List Unit) (n : ℕ)
      → Queues l units n → Queues (again_link l place) units n
  pub offers : (l : LinkView) (us units : List Unit) (n : ℕ) → refusal l.state ≡ None
      → ((k : ℕ) (u : Unit) → slice_get us k ≡ Some u → u.stream < end_stream)
      → Queues l units n → Queues (offer_link l us) (units ++ us) n
  pub ends : (l : LinkView) (units : List Unit) (n : ℕ) → refusal l.state ≡ None
      → Queues l units n → Queues (end_link l) (units ++ the_end ∷ []) n
  -- new links queue nothing
  pub dials : (id : ℕ) (socket : Socket) (to : Address) (buffers now : ℕ)
      → Queues (dialed id socket to buffers now) [] 0
  pub accepts : (id : ℕ) (socket : Socket) (from : Address) (h : SpxHeader) (buffers now : ℕ)
      → Queues (accepted_from id socket from h buffers now) [] 0
