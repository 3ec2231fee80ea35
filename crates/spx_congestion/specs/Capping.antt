-- How many units a pacer lets go within a second (defined by this project).
use Rattle.std.specs.Prelude.{ℕ, ◌+◌, ◌<◌, ◌≤◌, ◌&&◌, Bool, IsTrue, List, [], ◌∷◌, ◌++◌, if◌then◌else◌, is_some, nat_le}
use Rattle.spx_link.specs.declared.numbers.Numbers.{Numbers}
use Rattle.spx_congestion.specs.declared.sent_kind.SentKind.{SentKind}
use Rattle.spx_congestion.specs.declared.sent_kind.SentKind.TheVariants as Gaves
use Rattle.spx_congestion.specs.Hearing.{Hears}
use Rattle.spx_congestion.specs.Pacing.{PacerView, Tends, given_by, made_pacer, plan_of, with_outstanding}

-- the plan for the present state lets a packet go: it opens the window for a new unit, or asks for one that was
-- sent before. Other packets need no plan
abbrev pub LetsGo : PacerView → SentKind → Type 0
LetsGo p Gaves.Request = Unit {0}
LetsGo p Gaves.Unit = p.out < (plan_of p).window
LetsGo p Gaves.End = p.out < (plan_of p).window
LetsGo p Gaves.Again = IsTrue (is_some (plan_of p).again)
LetsGo p Gaves.Other = Unit {0}

-- the time of a packet, if it is a unit, first or again
abbrev pub unit_at : SentKind → ℕ → List ℕ
unit_at Gaves.Request now = []
unit_at Gaves.Unit now = now ∷ []
unit_at Gaves.End now = now ∷ []
unit_at Gaves.Again now = now ∷ []
unit_at Gaves.Other now = []

-- a pacer since it was made: it planned, heard and gave, as `plan`, `heard` and `gave` say, and gave units only as
-- planned. The units were given at these times. Times do not go back, and the last one is `last`
pub data HasLetGo : PacerView → List ℕ → ℕ → Type 0 where
  made : HasLetGo made_pacer [] 0
  plans : (old new : PacerView) (units : List ℕ) (last out now : ℕ) → HasLetGo old units last → last ≤ now
      → Tends old out now new → HasLetGo new units now
  hears : (old new : PacerView) (units : List ℕ) (last : ℕ) (before after : Numbers) (joined : Bool) (now : ℕ)
      → HasLetGo old units last → last ≤ now → Hears old before after joined now new → HasLetGo new units now
  gives : (old : PacerView) (units : List ℕ) (last : ℕ) (what : SentKind) (out now : ℕ)
      → HasLetGo old units last → last ≤ now → LetsGo old what
      → HasLetGo (given_by (with_outstanding old out now) what now) (units ++ unit_at what now) now

-- how many of these times are in the 1,000 ms from this time on, both ends counted
abbrev pub is_within : ℕ → ℕ → Bool
is_within from at = nat_le from at && nat_le at (from + 1000)

abbrev pub count_within : ℕ → List ℕ → ℕ
count_within from [] = 0
count_within from (at ∷ later) = (if is_within from at then 1 else 0) + count_within from later

-- whatever it hears and is asked, within any 1,000 ms a pacer lets go fewer than 32,767 units
abbrev pub UnitsAreCapped : Type 0
UnitsAreCapped =
    (p : PacerView) (units : List ℕ) (last : ℕ) → HasLetGo p units last → (from : ℕ) → count_within from units < 32767
