-- What the packet that a poll gives says about its link.
use Rattle.std.specs.Prelude.{◌≡◌, ℕ, ◌+◌, ◌<◌, ◌⊎◌, ◌==◌, true, [], Option, None, Some, slice_get}
use Rattle.spx_link.specs.declared.unit.Unit.{Unit}
use Rattle.spx_link.specs.declared.outgoing.Sent.{Sent}
use Rattle.spx_link.specs.declared.outgoing.Sent.TheVariants as Sents
use Rattle.spx_link.specs.declared.state.State.{State}
use Rattle.spx_link.specs.declared.state.State.TheVariants.{Lost, Opening}
use Rattle.spx_link.specs.Limits.{confirm_stream, most_units, no_id}
use Rattle.spx_link.specs.LinkView.{LinkView, is_working}
use Rattle.spx_link.specs.SequenceMarks.{mark}
use Rattle.spx_link.specs.Poll.{OutgoingView, allocation, base}
use Rattle.spx_link.specs.Receive.{is_system}
use Rattle.spx_link.specs.Units.{queued_units, as_sent, unit_in}

-- it is sent to an id, has no unit, and has the number of the next unit
pub record IsWithoutUnit (l : LinkView) (id : ℕ) (o : OutgoingView) : Type 0 where
  pub to : o.header.to_id ≡ id
  pub unit : is_system o.header ≡ true
  pub number : o.header.seq ≡ l.next
  pub body : o.body ≡ []

-- it carries a unit to the peer, which reads it as one unless its stream is that of a confirmation
pub record CarriesToPeer (l : LinkView) (u : Unit) (o : OutgoingView) : Type 0 where
  pub to : o.header.to_id ≡ l.peer
  pub unit : unit_in o.header o.body ≡ as_sent u
  pub body : o.body ≡ u.body.items
  pub system : is_system o.header ≡ (u.stream == confirm_stream)

-- the next unit of the queue, under the next number, if the peer allows one more and the window is not full
pub record IsNextUnit (l : LinkView) (o : OutgoingView) : Type 0 where
  pub unit : Unit
  pub queued : slice_get (queued_units l) l.out ≡ Some unit
  pub carries : CarriesToPeer l unit o
  pub number : o.header.seq ≡ l.next
  pub room : 0 < l.room
  pub window : l.out < most_units
  pub paced : l.out < l.window
  pub working : is_working l.state ≡ true

-- an outstanding unit, under its own number
pub record IsOutstandingUnit (l : LinkView) (o : OutgoingView) : Type 0 where
  pub unit : Unit
  pub place : ℕ
  pub outstanding : place < l.out
  pub queued : slice_get (queued_units l) place ≡ Some unit
  pub carries : CarriesToPeer l unit o
  pub number : o.header.seq ≡ mark (base l + place)
  pub working : is_working l.state ≡ true

-- a request is given only while opening
abbrev pub IsOfKind : Sent → LinkView → OutgoingView → Type 0
IsOfKind Sents.Request l o = IsWithoutUnit l no_id o × (l.state ≡ Opening)
IsOfKind Sents.Reply l o = IsWithoutUnit l l.peer o
IsOfKind Sents.Confirm l o = IsWithoutUnit l l.peer o
IsOfKind Sents.Unit l o = IsNextUnit l o
IsOfKind Sents.Again l o = IsOutstandingUnit l o
IsOfKind Sents.Ack l o = IsWithoutUnit l l.peer o
IsOfKind Sents.Probe l o = IsWithoutUnit l l.peer o

-- every packet is from the link's own id, and has the number that the link expects and its allocation
pub record IsGiven (l : LinkView) (o : OutgoingView) : Type 0 where
  pub from : o.header.from_id ≡ l.own
  pub read : o.header.ack ≡ l.expected
  pub allows : o.header.limit ≡ allocation l
  pub kind : IsOfKind o.what l o

-- the state is unchanged, or nothing is given and the link is lost
abbrev pub StaysOrIsLost : State → State → Option OutgoingView → Type 0
StaysOrIsLost before after given = (after ≡ before) ⊎ ((after ≡ Lost) × (given ≡ None))
