-- Which unit a link keeps, and what a packet does to its units and its state.
use Rattle.std.specs.Prelude.{◌≡◌, ℕ, ◌<◌, Bool, true, false, List, [], ◌++◌, map, Option, Some}
use Rattle.ipx_wire.specs.declared.spx.packet.SpxHeader.{SpxHeader}
use Rattle.spx_link.specs.declared.received.Received.{Received}
use Rattle.spx_link.specs.declared.received.Received.TheVariants.{Joined, Kept, Repeat, Ahead}
use Rattle.spx_link.specs.declared.received.Received.TheVariants.{OverAllocation, System, PeerEnded}
use Rattle.spx_link.specs.declared.received.Received.TheVariants.{Confirmed, Stranger}
use Rattle.spx_link.specs.declared.state.State.{State}
use Rattle.spx_link.specs.declared.state.State.TheVariants as States
use Rattle.spx_link.specs.declared.unit.Unit.{Unit}
use Rattle.spx_link.specs.LinkView.{LinkView, free}
use Rattle.spx_link.specs.SequenceMarks.{distance}
use Rattle.spx_link.specs.Receive.{is_own, is_system, after_end, put, is_taken, leading}
use Rattle.spx_link.specs.Units.{unit_in}

-- the states in which packets of the peer are read
abbrev pub is_joined : State → Bool
is_joined States.Opening = false
is_joined States.Live = true
is_joined States.Ending = true
is_joined States.PeerEnded = true
is_joined States.Confirmed = true
is_joined States.Lost = false

-- the packet has a unit that was not kept before, and there is a buffer for it
pub record IsInTurn (l : LinkView) (h : SpxHeader) : Type 0 where
  pub joined : is_joined l.state ≡ true
  pub own : is_own l h ≡ true
  pub unit : is_system h ≡ false
  pub more : l.peer_ended ≡ false
  pub near : distance h.seq l.expected < 32768
  pub room : distance h.seq l.expected < free l
  pub new : is_taken (distance h.seq l.expected) l.ahead ≡ false

-- what is kept from `expected` on, after the packet's unit is stored at its place
abbrev pub kept_with : LinkView → SpxHeader → List ℕ → List (Option Unit)
kept_with l h body = put (distance h.seq l.expected) (unit_in h body) l.ahead

-- the units that become held: those that are in order
abbrev pub newly_held : LinkView → SpxHeader → List ℕ → List Unit
newly_held l h body = leading (kept_with l h body)

-- what is kept, from the first held unit on
abbrev pub kept : LinkView → List (Option Unit)
kept l = map Some l.held ++ l.ahead

-- the state after an answer
abbrev pub state_after : Received → State → State
state_after Joined s = States.Live
state_after Kept s = s
state_after Repeat s = s
state_after Ahead s = s
state_after OverAllocation s = s
state_after System s = s
state_after PeerEnded s = after_end s
state_after Confirmed s = States.Confirmed
state_after Stranger s = s

-- whether the peer has ended after an answer
abbrev pub ended_after : Received → Bool → Bool
ended_after Joined ended = ended
ended_after Kept ended = ended
ended_after Repeat ended = ended
ended_after Ahead ended = ended
ended_after OverAllocation ended = ended
ended_after System ended = ended
ended_after PeerEnded ended = true
ended_after Confirmed ended = ended
ended_after Stranger ended = ended

-- a link that becomes confirmed had queued its end, and everything it sent is acknowledged
pub record ConfirmsWhole (old new : LinkView) : Type 0 where
  pub end_queued : old.end_queued ≡ true
  pub queue : new.queue ≡ []
