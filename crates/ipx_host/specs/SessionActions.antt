-- The action that is due for a connection that a listening host accepted. Nothing here is from a public
-- standard.
use Rattle.std.specs.Prelude.{◌≡◌, ◌≢◌, ◌≤◌, ◌⊎◌, ℕ, Bool, true, false, Option, Some, None}
use Rattle.spx_link.specs.declared.state.State.{State}
use Rattle.spx_link.specs.declared.state.State.TheVariants as States
use Rattle.ipx_host.specs.declared.sessions.SessionAction.{SessionAction}
use Rattle.ipx_host.specs.declared.sessions.SessionAction.TheVariants.{Stays, Asks, Over, GivenUp}
use Rattle.ipx_host.specs.declared.sessions.Phase.{Phase}
use Rattle.ipx_host.specs.declared.sessions.Phase.TheVariants as Standings

-- nothing was received on this connection since it was accepted
abbrev pub is_unheard : Phase → Bool
is_unheard Standings.New = true
is_unheard Standings.NewProbed = true
is_unheard Standings.Open = false
is_unheard Standings.KeepaliveSent = false
is_unheard Standings.Ended = false

-- the end of this connection was taken
abbrev pub ends : Phase → Bool
ends Standings.New = false
ends Standings.NewProbed = false
ends Standings.Open = false
ends Standings.KeepaliveSent = false
ends Standings.Ended = true

-- the link of this connection is there, and neither Lost nor Confirmed
abbrev pub IsHeld : Option State → Type 0
IsHeld state = (state ≢ None) × (state ≢ Some States.Lost) × (state ≢ Some States.Confirmed)

-- its link is gone or Confirmed, or its end was received and then nothing for three seconds
abbrev pub IsOver : Phase → Option State → ℕ → Type 0
IsOver phase state silent = (state ≡ None) ⊎ (state ≡ Some States.Confirmed)
    ⊎ (IsHeld state × (phase ≡ Standings.Ended) × (3000 ≤ silent))

-- it is open and silent for a minute, or it only requested and is silent for a second
abbrev pub IsToAsk : Phase → Option State → ℕ → Type 0
IsToAsk phase state silent = IsHeld state × (((phase ≡ Standings.Open) × (60000 ≤ silent))
    ⊎ ((phase ≡ Standings.New) × (1000 ≤ silent)))

-- the action that is due. The connection stays if no other action is due
abbrev pub IsSessionAction : SessionAction → Phase → Option State → ℕ → Type 0
IsSessionAction Stays phase state silent = (state ≢ Some States.Lost)
    × (IsOver phase state silent → ⊥) × (IsToAsk phase state silent → ⊥)
IsSessionAction Asks phase state silent = IsToAsk phase state silent
IsSessionAction Over phase state silent = IsOver phase state silent
IsSessionAction GivenUp phase state silent = state ≡ Some States.Lost

-- the phase of a connection after it is probed. Whether it was heard from before is kept
abbrev pub phase_asked : Phase → Phase
phase_asked Standings.New = Standings.NewProbed
phase_asked Standings.NewProbed = Standings.NewProbed
phase_asked Standings.Open = Standings.KeepaliveSent
phase_asked Standings.KeepaliveSent = Standings.KeepaliveSent
phase_asked Standings.Ended = Standings.Ended

-- the phase of a connection after a datagram is received on it: open, unless its end was taken
abbrev pub phase_heard : Phase → Phase
phase_heard Standings.New = Standings.Open
phase_heard Standings.NewProbed = Standings.Open
phase_heard Standings.Open = Standings.Open
phase_heard Standings.KeepaliveSent = Standings.Open
phase_heard Standings.Ended = Standings.Ended
