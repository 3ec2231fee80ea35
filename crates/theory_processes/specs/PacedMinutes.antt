-- Rounds with plans that are a minute or more apart: no wait for an acknowledgement is longer. Defined by this project.
use Rattle.std.specs.Prelude.{ℕ, ⊤, Bool, ◌+◌, ◌-◌, ◌^◌, ◌<◌, ◌≤◌, ◌≡◌, IsTrue, List, [], ◌∷◌, Some, is_some}
use Rattle.spx_link.specs.declared.unit.Unit.{Unit}
use Rattle.spx_link.specs.LinkView.{LinkView}
use Rattle.spx_link.specs.declared.numbers.Numbers.{Numbers}
use Rattle.spx_congestion.specs.declared.sent_kind.SentKind.{SentKind}
use Rattle.spx_congestion.specs.Hearing.{Hears}
use Rattle.spx_congestion.specs.Measured.{IsBounded, most_wait}
use Rattle.spx_congestion.specs.Pacing.{PacerView, Tends, given_by, made_pacer, with_outstanding}
use Rattle.spx_theory.specs.LosslessRounds.{HasSentBy}
use Rattle.theory_processes.specs.PacedRounds.{PacedRounds, PacedTurns}

-- each time is a minute or more after the one before, and a clock can show it
abbrev pub RiseByMinutes : ℕ → List ℕ → Type 0
RiseByMinutes since [] = ⊤
RiseByMinutes since (now ∷ moments) = (since + most_wait ≤ now) × (now < 2 ^ 64 - 1) × RiseByMinutes now moments

-- a pacer waits if units are outstanding, and since this time or before. Its timeout has its bounds
pub record IsWaiting (out : ℕ) (p : PacerView) (since : ℕ) : Type 0 where
  pub timed : IsBounded p.trip
  pub begun : (t : ℕ) → p.timer ≡ Some t → t ≤ since
  pub some : 0 < out → IsTrue (is_some p.timer)

-- a new pacer is so. It stays so if it counts the units that its link has: it planned for them, heard how a packet
-- changed them, and gave a packet after which there are so many
pub record StaysWaiting : Type 0 where
  pub made : IsWaiting 0 made_pacer 0
  pub plans : (old new : PacerView) (out since now : ℕ) → Tends old out now new → IsWaiting out old since
      → since ≤ now → IsWaiting out new now
  pub hears : (old new : PacerView) (before after : Numbers) (joined : Bool) (since now : ℕ)
      → Hears old before after joined now new → IsWaiting before.out old since → since ≤ now
      → IsWaiting after.out new now
  pub gives : (old : PacerView) (what : SentKind) (out more since now : ℕ) → IsWaiting out old since
      → since ≤ now → IsWaiting more (given_by (with_outstanding old more now) what now) now

-- rounds at such times. The first of them is a minute or more after all that the two links sent, after the last plan,
-- and after the pacer began to wait
pub record PacedMinutes (a : LinkView) (p : PacerView) (b : LinkView) (moments : List ℕ) (a' : LinkView)
    (p' : PacerView) (b' : LinkView) (units_b units_a : List Unit) : Type 0 where
  pub since : ℕ
  pub first : a.spoke ≤ since
  pub planned : p.tick ≤ since
  pub waiting : IsWaiting a.out p since
  pub second : HasSentBy b since
  pub rise : RiseByMinutes since moments
  pub turns : PacedTurns a p b moments a' p' b' units_b units_a

-- then each begins once the wait is over
abbrev pub MinutesAreRipe : Type 0
MinutesAreRipe =
    (a b a' b' : LinkView) (p p' : PacerView) (moments : List ℕ) (units_b units_a : List Unit)
    → PacedMinutes a p b moments a' p' b' units_b units_a → PacedRounds a p b moments a' p' b' units_b units_a
