-- What is true of a link in each of its states, and kept by each of its calls.
use Rattle.std.specs.Prelude.{◌≡◌, ℕ, ◌+◌, Bool, true, false, [], length}
use Rattle.spx_link.specs.declared.state.State.{State}
use Rattle.spx_link.specs.declared.state.State.TheVariants.{Opening, Live, Ending, PeerEnded}
use Rattle.spx_link.specs.declared.state.State.TheVariants.{Confirmed, Lost}
use Rattle.spx_link.specs.LinkView.{LinkView}
use Rattle.spx_link.specs.SequenceMarks.{mark}

-- the states in which no end was queued here and none was received from the peer
abbrev pub is_open : State → Bool
is_open Opening = true
is_open Live = true
is_open Ending = false
is_open PeerEnded = false
is_open Confirmed = false
is_open Lost = false

-- the states that read no packet except one that joins
abbrev pub is_unconnected : State → Bool
is_unconnected Opening = true
is_unconnected Live = false
is_unconnected Ending = false
is_unconnected PeerEnded = false
is_unconnected Confirmed = false
is_unconnected Lost = true

-- in an open state no end is queued
abbrev pub HasNoEndWhileOpen : LinkView → Type 0
HasNoEndWhileOpen l = is_open l.state ≡ true → l.end_queued ≡ false

-- once confirmed, the end was queued, and all that was queued is acknowledged
pub record IsWhole (l : LinkView) : Type 0 where
  pub end_queued : l.end_queued ≡ true
  pub queue : l.queue ≡ []

abbrev pub IsWholeOnceConfirmed : LinkView → Type 0
IsWholeOnceConfirmed l = l.state ≡ Confirmed → IsWhole l

-- so many units were taken. With the units held they are all units before the expected one
abbrev pub HasTaken : ℕ → LinkView → Type 0
HasTaken taken l = mark (taken + length l.held) ≡ l.expected
