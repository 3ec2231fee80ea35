-- How credit grows while a pacer gives no unit (defined by this project).
use Rattle.std.specs.Prelude.{ℕ, ◌+◌, ◌-◌, ◌<◌, ◌≤◌, ◌≡◌, Bool, IsTrue, min}
use Rattle.spx_link.specs.declared.numbers.Numbers.{Numbers}
use Rattle.spx_congestion.specs.declared.sent_kind.SentKind.{SentKind}
use Rattle.spx_congestion.specs.Hearing.{Hears}
use Rattle.spx_congestion.specs.Pacing.{PacerView, Tends, credit_after, given_by, has_credit, plan_of, with_outstanding}

-- the credit of a pacer had grown until this time, or not so long. Since then it planned, heard and gave, as `plan`,
-- `heard` and `gave` say, as often and at what times you like, and gave nothing that costs credit
pub data HasSaved : PacerView → ℕ → Type 0 where
  begins : (p : PacerView) (since : ℕ) → p.tick ≤ since → HasSaved p since
  plans : (old new : PacerView) (since out now : ℕ) → HasSaved old since → Tends old out now new → HasSaved new since
  hears : (old new : PacerView) (since : ℕ) (before after : Numbers) (joined : Bool) (now : ℕ) → HasSaved old since
      → Hears old before after joined now new → HasSaved new since
  gives : (old : PacerView) (since : ℕ) (what : SentKind) (out now : ℕ) → HasSaved old since
      → credit_after old.credit what ≡ old.credit
      → HasSaved (given_by (with_outstanding old out now) what now) since

-- a plan then has all the credit of the time since, a 256th of a unit each millisecond, or ten units. After 256 ms
-- that is a unit, and if nothing is outstanding, one goes
abbrev pub PlansGoOn : Type 0
PlansGoOn =
    (p new : PacerView) (since out now : ℕ) → HasSaved p since → Tends p out now new
    → (min (now - since) 2560 ≤ new.credit)
    × (since + 256 ≤ now → IsTrue (has_credit new))
    × (since + 256 ≤ now → out ≡ 0 → 0 < (plan_of new).window)
