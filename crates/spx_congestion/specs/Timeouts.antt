-- How many timeouts in a row a pacer has seen, since anything new was acknowledged or since it was made
-- (defined by this project).
use Rattle.std.specs.Prelude.{ℕ, ◌+◌, ◌<◌, ◌≤◌, ◌≡◌, ◌↔◌, IsTrue, true, false}
use Rattle.spx_link.specs.declared.numbers.Numbers.{Numbers}
use Rattle.spx_congestion.specs.declared.sent_kind.SentKind.{SentKind}
use Rattle.spx_congestion.specs.Pacing.{PacerView, Tends, given_by, has_given_up, is_over, made_pacer, waits_till, with_outstanding}

-- how a packet that was heard changes the count: if it acknowledges anything new, the count becomes 0,
-- otherwise it stays
pub record CountsHeard (before after : Numbers) (old new : PacerView) : Type 0 where
  pub acknowledged : after.out < before.out → new.trip.doubled ≡ 0
  pub other : before.out ≤ after.out → new.trip.doubled ≡ old.trip.doubled

-- a pacer that was made, and then planned, heard and gave, as `plan`, `heard` and `gave` say, had so many
-- timeouts in a row
pub data HasTimedOut : PacerView → ℕ → Type 0 where
  begins : HasTimedOut made_pacer 0
  times_out : (old new : PacerView) (count out now : ℕ) → HasTimedOut old count → Tends old out now new
      → is_over (waits_till (with_outstanding old out now)) now ≡ true → HasTimedOut new (count + 1)
  plans : (old new : PacerView) (count out now : ℕ) → HasTimedOut old count → Tends old out now new
      → is_over (waits_till (with_outstanding old out now)) now ≡ false → HasTimedOut new count
  hears_new : (old new : PacerView) (count : ℕ) (before after : Numbers) → HasTimedOut old count
      → after.out < before.out → CountsHeard before after old new → HasTimedOut new 0
  hears : (old new : PacerView) (count : ℕ) (before after : Numbers) → HasTimedOut old count
      → before.out ≤ after.out → CountsHeard before after old new → HasTimedOut new count
  gives : (old : PacerView) (count : ℕ) (what : SentKind) (out now : ℕ) → HasTimedOut old count
      → HasTimedOut (given_by (with_outstanding old out now) what now) count

-- it has given up exactly after ten
abbrev pub GivesUpAfterTen : Type 0
GivesUpAfterTen = (p : PacerView) (count : ℕ) → HasTimedOut p count → IsTrue (has_given_up p) ↔ (10 ≤ count)
