-- How a sending host ends. Nothing here is from a public standard.
use Rattle.std.specs.Prelude.{◌≡◌, ◌+◌, ◌<◌, ◌⊎◌, ℕ, Bool, IsTrue, Option, Some, None, true, false}
use Rattle.std.specs.Option.{option_map}
use Rattle.spx_link.specs.Courses.{IsWhole}
use Rattle.spx_link.specs.declared.state.State.{State}
use Rattle.spx_link.specs.declared.state.State.TheVariants.{Opening, Live, Ending}
use Rattle.spx_link.specs.declared.state.State.TheVariants.{PeerEnded, Confirmed, Lost}
use Rattle.spx_messages.specs.EndpointView.{EndpointView, Held, held_at}
use Rattle.ipx_host.specs.declared.send_outcome.SendOutcome.{SendOutcome}
use Rattle.ipx_host.specs.declared.send_outcome.SendOutcome.TheVariants as Verdicts

-- the outcome of a transfer, by whether its link is whole, and by its state, if it is there. It is done
-- exactly if the peer has acknowledged everything, and the end too. Whether the peer confirmed that end as
-- well does not matter. If a link is lost before it was open, nobody answered. If the peer ends the
-- connection first, the host waits while the rest may still be acknowledged
abbrev pub verdict_at : Bool → Bool → Bool → Option State → Option SendOutcome
verdict_at whole joined waits None = Some Verdicts.GivenUp
verdict_at whole joined waits (Some Opening) = None
verdict_at whole joined waits (Some Live) = None
verdict_at true joined waits (Some Ending) = Some Verdicts.Done
verdict_at false joined waits (Some Ending) = None
verdict_at true joined waits (Some PeerEnded) = Some Verdicts.Done
verdict_at false joined true (Some PeerEnded) = None
verdict_at false joined false (Some PeerEnded) = Some Verdicts.PeerLeft
verdict_at true joined waits (Some Confirmed) = Some Verdicts.Done
verdict_at false joined waits (Some Confirmed) = Some Verdicts.GivenUp
verdict_at whole true waits (Some Lost) = Some Verdicts.GivenUp
verdict_at whole false waits (Some Lost) = Some Verdicts.Unanswered

-- the end was queued here, or received from the peer, and the link is not lost
abbrev pub IsClosing : Option State → Type 0
IsClosing state = (state ≡ Some Ending) ⊎ (state ≡ Some PeerEnded) ⊎ (state ≡ Some Confirmed)

-- a transfer is done only if its end is queued. If not, it is given up
abbrev pub ended_at : Bool → SendOutcome → SendOutcome
ended_at true v = v
ended_at false Verdicts.Done = Verdicts.GivenUp
ended_at false Verdicts.Unanswered = Verdicts.Unanswered
ended_at false Verdicts.GivenUp = Verdicts.GivenUp
ended_at false Verdicts.PeerLeft = Verdicts.PeerLeft
ended_at false Verdicts.Unread = Verdicts.Unread
ended_at false Verdicts.OutOfMemory = Verdicts.OutOfMemory
ended_at false Verdicts.Unwaited = Verdicts.Unwaited

-- the state of the link of an id, if it is there
abbrev pub state_at : EndpointView → ℕ → Option State
state_at e id = option_map (λ h. h.link.state) (held_at e id)

-- the link of an id is there, its end is queued, and the peer has acknowledged all that was queued
abbrev pub IsWholeAt : EndpointView → ℕ → Type 0
IsWholeAt e id = (h : Held) × (held_at e id ≡ Some h) × IsWhole h.link

-- whether a connection was ever open, after its link was seen in this state, or gone
abbrev pub joined_at : Bool → Option State → Bool
joined_at joined None = joined
joined_at joined (Some Opening) = joined
joined_at joined (Some Live) = true
joined_at joined (Some Ending) = true
joined_at joined (Some PeerEnded) = true
joined_at joined (Some Confirmed) = true
joined_at joined (Some Lost) = joined

-- when the peer's end was first seen, after this state was seen at this time
abbrev pub left_at : Option ℕ → Option State → ℕ → Option ℕ
left_at (Some moment) state now = Some moment
left_at None None now = None
left_at None (Some Opening) now = None
left_at None (Some Live) now = None
left_at None (Some Ending) now = None
left_at None (Some PeerEnded) now = Some now
left_at None (Some Confirmed) now = None
left_at None (Some Lost) now = None

-- the rest may still be acknowledged if the peer's end was not seen, or if it was seen less than six seconds
-- ago and the end is queued here
abbrev pub IsWaiting : Bool → Option ℕ → ℕ → Type 0
IsWaiting closed None now = Unit {0}
IsWaiting closed (Some left) now = IsTrue closed × (now < left + 6000)
