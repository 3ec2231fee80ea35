-- How long a pacer waits until it counts a timeout, whatever it hears (defined by this project).
use Rattle.std.specs.Prelude.{ℕ, ◌+◌, ◌-◌, ◌*◌, ◌^◌, ◌<◌, ◌≤◌, ◌≡◌, ◌⊎◌, Some, false, true}
use Rattle.spx_link.specs.declared.numbers.Numbers.{Numbers}
use Rattle.spx_congestion.specs.declared.sent_kind.SentKind.{SentKind}
use Rattle.spx_congestion.specs.Measured.{least_wait, most_wait}
use Rattle.spx_congestion.specs.Pacing.{PacerView, Tends, WaitsOn, flight, given_by, is_over, place_again, wait_of, waits_till, with_outstanding}

-- whether a plan at this time counts a timeout, with so many units outstanding
abbrev pub TimesOut : PacerView → ℕ → ℕ → Type 0
TimesOut old out now = is_over (waits_till (with_outstanding old out now)) now ≡ true

abbrev pub WaitsYet : PacerView → ℕ → ℕ → Type 0
WaitsYet old out now = is_over (waits_till (with_outstanding old out now)) now ≡ false

-- a packet that brings no news: it acknowledges nothing new. And it takes no unit out of flight, or comes after
-- a timeout
pub record BringsNoNews (old : PacerView) (before after : Numbers) (now : ℕ) (new : PacerView) : Type 0 where
  pub none : before.out ≤ after.out
  pub waits : WaitsOn old after.out now new
  pub still : (flight (with_outstanding old after.out now) ≤ flight new) ⊎ (0 < old.trip.doubled)

-- a pacer began to wait at this time. It planned, heard and gave since, as `plan`, `heard` and `gave` say, with
-- units outstanding all the time, no news and no timeout
pub data HasNoNews : PacerView → ℕ → Type 0 where
  begins : (p : PacerView) (since : ℕ) → p.timer ≡ Some since → HasNoNews p since
  plans : (old new : PacerView) (since out now : ℕ) → HasNoNews old since → 0 < out → Tends old out now new
      → WaitsYet old out now → HasNoNews new since
  hears : (old new : PacerView) (since now : ℕ) (before after : Numbers) → HasNoNews old since → 0 < after.out
      → BringsNoNews old before after now new → HasNoNews new since
  gives : (old : PacerView) (since : ℕ) (what : SentKind) (out now : ℕ) → HasNoNews old since → 0 < out
      → HasNoNews (given_by (with_outstanding old out now) what now) since

-- then a plan counts a timeout as soon as the wait is over, and the first outstanding unit is to be sent again
abbrev pub NothingElsePostpones : Type 0
NothingElsePostpones =
    (p new : PacerView) (since out now : ℕ) → HasNoNews p since → 0 < out → Tends p out now new
    → since + wait_of (with_outstanding p out now) ≤ now → p.base + 1 < 2 ^ 64
    → TimesOut p out now × (place_again new ≡ Some 0)

-- each wait lasts 200 ms to 60 s
abbrev pub WaitsAreBounded : Type 0
WaitsAreBounded =
    (old new : PacerView) (out now : ℕ) → Tends old out now new
    → (least_wait ≤ wait_of (with_outstanding old out now)) × (wait_of (with_outstanding old out now) ≤ most_wait)

-- a pacer began to wait at the first time. It planned, heard and gave since, at times that do not go back, of
-- which `last` is the last. Nothing new was acknowledged, and it had so many timeouts
pub data HasWaited : PacerView → ℕ → ℕ → ℕ → Type 0 where
  begins_to : (p : PacerView) (since : ℕ) → p.timer ≡ Some since → HasWaited p since 0 since
  times_out : (old new : PacerView) (since count last out now : ℕ) → HasWaited old since count last → last ≤ now
      → now < 2 ^ 64 - 1 → Tends old out now new → TimesOut old out now → HasWaited new since (count + 1) now
  tends : (old new : PacerView) (since count last out now : ℕ) → HasWaited old since count last → last ≤ now
      → Tends old out now new → WaitsYet old out now → HasWaited new since count now
  reads : (old new : PacerView) (since count last out now : ℕ) → HasWaited old since count last → last ≤ now
      → WaitsOn old out now new → HasWaited new since count now
  sends : (old : PacerView) (since count last : ℕ) (what : SentKind) (out now : ℕ) → HasWaited old since count last
      → last ≤ now → HasWaited (given_by (with_outstanding old out now) what now) since count now

-- so many timeouts last so often the least wait, at least
abbrev pub TimeoutsLast : Type 0
TimeoutsLast =
    (p : PacerView) (since count last : ℕ) → HasWaited p since count last → since + count * least_wait ≤ last
