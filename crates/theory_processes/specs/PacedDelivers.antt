-- What rounds with plans do to two links in step of which the first is paced: its units arrive at the peer's user.
-- Defined by this project.
use Rattle.std.specs.Prelude.{ℕ, ◌+◌, ◌^◌, ◌<◌, ◌≤◌, ◌≡◌, ◌≢◌, false, List, length, drop, Some, slice_get}
use Rattle.spx_link.specs.declared.unit.Unit.{Unit}
use Rattle.spx_link.specs.declared.queue.Queued.{Queued}
use Rattle.spx_link.specs.declared.state.State.TheVariants as States
use Rattle.spx_link.specs.ByClock.{IsUnpaced}
use Rattle.spx_link.specs.Limits.{end_stream, most_manual_probes, most_sends}
use Rattle.spx_link.specs.LinkView.{LinkView}
use Rattle.spx_link.specs.Machine.{End}
use Rattle.spx_congestion.specs.Pacing.{PacerView, most_timeouts}
use Rattle.spx_theory.specs.RoundsDeliver.{AreInStep, HasNotGivenUp, IsDelivered, IsSending}
use Rattle.theory_processes.specs.PacedRounds.{PacedRounds}

-- a pacer can go on with so many units that are queued: the next timeout is not the tenth in a row, and it can count
-- the units
pub record CanPace (p : PacerView) (queued : ℕ) : Type 0 where
  pub timeouts : p.trip.doubled + 1 < most_timeouts
  pub counts : p.base + queued + 1 < 2 ^ 64

-- the next poll of a manual link cannot answer Lost: no outstanding unit was sent ten times, and fewer than 60 probes
-- were sent since a packet of the peer was read
pub record HasNotGivenUpManually (l : LinkView) : Type 0 where
  pub sent : (k : ℕ) (q : Queued) → k < l.out → slice_get l.queue k ≡ Some q → q.count < most_sends
  pub probes : l.probes < most_manual_probes

-- two ends of which the first, with its pacer, has units for the second, which has not had its end. Nobody paces the
-- second. How the first was set before does not matter
pub record CanDeliverPaced (a : LinkView) (p : PacerView) (b : LinkView) (one two : End) : Type 0 where
  pub step : AreInStep a b one two
  pub sends : IsSending a.state
  pub live : b.state ≡ States.Live
  pub goes_on : b.peer_ended ≡ false
  pub unread : (k : ℕ) (u : Unit) → k < two.read → slice_get one.units k ≡ Some u → u.stream ≢ end_stream
  pub buffers : 0 < b.buffers
  pub first : HasNotGivenUpManually a
  pub second : HasNotGivenUp b
  pub unpaced_b : IsUnpaced b
  pub paces : CanPace p (length a.queue)

-- how many rounds are enough: one until nothing is held, one until no answer is owed, one for the probe that asks for
-- the allocation, and one for each unit that is queued
abbrev pub paced_rounds_for : LinkView → ℕ
paced_rounds_for a = 3 + length a.queue

abbrev pub PacedRoundsDeliver : Type 0
PacedRoundsDeliver =
    (a b a' b' : LinkView) (p p' : PacerView) (one two : End) (moments : List ℕ) (units_b units_a : List Unit)
    → CanDeliverPaced a p b one two → PacedRounds a p b moments a' p' b' units_b units_a
    → paced_rounds_for a ≤ length moments → IsDelivered a b a' b' (drop two.taken one.units) units_b
