-- What rounds do to two links in step: the first link's units arrive at the second's user.
use Rattle.std.specs.Prelude.{ℕ, ◌<◌, ◌≤◌, ◌≡◌, ◌≢◌, ◌⊎◌, true, false, List, [], length, drop, Some, slice_get}
use Rattle.spx_link.specs.declared.unit.Unit.{Unit}
use Rattle.spx_link.specs.declared.queue.Queued.{Queued}
use Rattle.spx_link.specs.declared.state.State.{State}
use Rattle.spx_link.specs.declared.state.State.TheVariants as States
use Rattle.spx_link.specs.Limits.{end_stream, most_sends}
use Rattle.spx_link.specs.ByClock.{IsUnpaced}
use Rattle.spx_link.specs.LinkView.{LinkView}
use Rattle.spx_link.specs.Machine.{End, AreSound}
use Rattle.spx_theory.specs.Tracks.{Follows}
use Rattle.spx_theory.specs.Named.{AreNamed}
use Rattle.spx_theory.specs.LosslessRounds.{LosslessRounds, rounds_for}

-- two links are the two ends of one machine, and each has the id by which the other addresses its peer
pub record AreInStep (a b : LinkView) (one two : End) : Type 0 where
  pub first : Follows a one two
  pub second : Follows b two one
  pub line : AreSound one two
  pub names : AreNamed a b

-- the next poll of a joined link cannot answer Lost: no outstanding unit was sent ten times, and fewer than
-- ten probes were sent since a packet of the peer was read
pub record HasNotGivenUp (l : LinkView) : Type 0 where
  pub sent : (k : ℕ) (q : Queued) → k < l.out → slice_get l.queue k ≡ Some q → q.count < most_sends
  pub probes : l.probes < most_sends

-- the states in which an end still sends its units
abbrev pub IsSending : State → Type 0
IsSending s = (s ≡ States.Live) ⊎ (s ≡ States.Ending)

-- two ends of which the first has units for the second, which has not had its end. Both links have the window
-- and the retransmission of a new link: with manual retransmission, a unit that nobody asks for is not sent again
pub record CanDeliver (a b : LinkView) (one two : End) : Type 0 where
  pub step : AreInStep a b one two
  pub sends : IsSending a.state
  pub live : b.state ≡ States.Live
  pub goes_on : b.peer_ended ≡ false
  pub unread : (k : ℕ) (u : Unit) → k < two.read → slice_get one.units k ≡ Some u → u.stream ≢ end_stream
  pub buffers : 0 < b.buffers
  pub first : HasNotGivenUp a
  pub second : HasNotGivenUp b
  pub unpaced : IsUnpaced a
  pub unpaced_b : IsUnpaced b

-- all units of the first are acknowledged, and the second's user took those that were left, in order. If the
-- first queued its end, it is confirmed, and the second has it; otherwise both states stay
pub record IsDelivered (a b a' b' : LinkView) (left units_b : List Unit) : Type 0 where
  pub queue : a'.queue ≡ []
  pub units : units_b ≡ left
  pub ended : a.end_queued ≡ true → (a'.state ≡ States.Confirmed) × (b'.state ≡ States.PeerEnded)
  pub live : a.end_queued ≡ false → (a'.state ≡ a.state) × (b'.state ≡ States.Live)

abbrev pub RoundsDeliver : Type 0
RoundsDeliver =
    (a b a' b' : LinkView) (one two : End) (moments : List ℕ) (units_b units_a : List Unit)
    → CanDeliver a b one two → LosslessRounds a b moments a' b' units_b units_a
    → rounds_for a b ≤ length moments → IsDelivered a b a' b' (drop two.taken one.units) units_b

-- in both directions at once, if both are live
abbrev pub RoundsDeliverBothWays : Type 0
RoundsDeliverBothWays =
    (a b a' b' : LinkView) (one two : End) (moments : List ℕ) (units_b units_a : List Unit)
    → CanDeliver a b one two → CanDeliver b a two one → LosslessRounds a b moments a' b' units_b units_a
    → rounds_for a b ≤ length moments → rounds_for b a ≤ length moments
    → IsDelivered a b a' b' (drop two.taken one.units) units_b
    × IsDelivered b a b' a' (drop one.taken two.units) units_a
