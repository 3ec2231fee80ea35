-- Of which pacers there are rounds, at any times. Defined by this project.
use Rattle.std.specs.Prelude.{ℕ, ◌≡◌, Bool, true, List, IsTrue, is_some}
use Rattle.spx_link.specs.declared.unit.Unit.{Unit}
use Rattle.spx_link.specs.LinkView.{LinkView}
use Rattle.spx_link.specs.declared.numbers.Numbers.{Numbers}
use Rattle.spx_congestion.specs.declared.sent_kind.SentKind.{SentKind}
use Rattle.spx_congestion.specs.Hearing.{Hears}
use Rattle.spx_congestion.specs.Measured.{IsBounded}
use Rattle.spx_congestion.specs.Pacing.{PacerView, Tends, given_by, made_pacer, with_outstanding}
use Rattle.theory_processes.specs.PacedRounds.{PacedTurns}

-- a timeout within its bounds, and a repair that has an end
pub record IsUsable (p : PacerView) : Type 0 where
  pub timed : IsBounded p.trip
  pub repairs : p.mends ≡ true → IsTrue (is_some p.recover)

-- a new pacer is so, and stays so, whatever it plans, hears and gives
pub record StaysUsable : Type 0 where
  pub made : IsUsable made_pacer
  pub plans : (old new : PacerView) (out now : ℕ) → Tends old out now new → IsUsable old → IsUsable new
  pub hears : (old new : PacerView) (before after : Numbers) (joined : Bool) (now : ℕ)
      → Hears old before after joined now new → IsUsable old → IsUsable new
  pub gives : (old : PacerView) (what : SentKind) (out now : ℕ)
      → IsUsable old → IsUsable (given_by (with_outstanding old out now) what now)

-- there are rounds, one after another, at these times
pub record PacedRoundsExist (a : LinkView) (p : PacerView) (b : LinkView) (moments : List ℕ) : Type 0 where
  pub first : LinkView
  pub pacer : PacerView
  pub second : LinkView
  pub units_b : List Unit
  pub units_a : List Unit
  pub turns : PacedTurns a p b moments first pacer second units_b units_a
