-- Since when round trips are measured, in a whole run (defined by this project).
use Rattle.std.specs.Prelude.{ℕ, ◌+◌, ◌-◌, ◌^◌, ◌<◌, ◌≤◌, ◌≡◌, ◌⊎◌, ◌==◌, if◌then◌else◌, Bool, Option, None, Some}
use Rattle.spx_link.specs.declared.numbers.Numbers.{Numbers}
use Rattle.spx_congestion.specs.declared.sent_kind.SentKind.{SentKind}
use Rattle.spx_congestion.specs.declared.sent_kind.SentKind.TheVariants as Gaves
use Rattle.spx_congestion.specs.Hearing.{Hears, sample_from}
use Rattle.spx_congestion.specs.Pacing.{PacerView, Tends, given_by, made_pacer, place_again, with_outstanding}

-- when units were given, by position. None if one was not given, or more often than once. At one position that changes
abbrev pub with_given : (ℕ → Option ℕ) → ℕ → Option ℕ → ℕ → Option ℕ
with_given given position at other = if other == position then at else given other

-- a packet carries a new unit, or the end, or no unit
abbrev pub CarriesNew : SentKind → Type 0
CarriesNew what = (what ≡ Gaves.Unit) ⊎ (what ≡ Gaves.End)

abbrev pub CarriesNone : SentKind → Type 0
CarriesNone what = (what ≡ Gaves.Request) ⊎ (what ≡ Gaves.Other)

-- a pacer since it was made, which planned, heard and gave, as `plan`, `heard` and `gave` say. Its link always had as
-- many outstanding units as it counted, and at most 8,192. The function says when its units were given
pub data HasGiven : PacerView → (ℕ → Option ℕ) → Type 0 where
  made : HasGiven made_pacer (λ position. None)
  plans : (old new : PacerView) (given : ℕ → Option ℕ) (now : ℕ) → HasGiven old given → Tends old old.out now new
      → HasGiven new given
  hears : (old new : PacerView) (given : ℕ → Option ℕ) (before after : Numbers) (joined : Bool) (now : ℕ)
      → HasGiven old given → before.out ≡ old.out → after.out ≤ before.out → Hears old before after joined now new
      → HasGiven new given
  gives_new : (old : PacerView) (given : ℕ → Option ℕ) (what : SentKind) (now : ℕ) → HasGiven old given → CarriesNew what
      → old.out < 8192 → old.base + old.out + 1 < 2 ^ 64
      → HasGiven (given_by (with_outstanding old (old.out + 1) now) what now) (with_given given (old.base + old.out) (Some now))
  gives_again : (old : PacerView) (given : ℕ → Option ℕ) (place now : ℕ) → HasGiven old given
      → place_again old ≡ Some place
      → HasGiven (given_by (with_outstanding old old.out now) Gaves.Again now) (with_given given (old.base + place) None)
  gives_none : (old : PacerView) (given : ℕ → Option ℕ) (what : SentKind) (now : ℕ) → HasGiven old given → CarriesNone what
      → HasGiven (given_by (with_outstanding old old.out now) what now) given

-- if so many units are acknowledged, and that gives a sample since a time, the last of them was given then, and only once
abbrev pub SamplesAreSinceGiven : Type 0
SamplesAreSinceGiven =
    (p : PacerView) (given : ℕ → Option ℕ) → HasGiven p given → (units at : ℕ) → 0 < units → units ≤ p.out
    → sample_from p units ≡ Some at → given (p.base + (units - 1)) ≡ Some at
