-- A new pacer has its timeout within the bounds, and while it mends its repair has an end. So it stays.
use Rattle.std.proofs.Common.{ℕ, ◌<◌, ◌≤◌, ◌≡◌, Bool, true, is_some, refl, sym, subst, inl, inr, ⊎_elim, arith}
use Rattle.std.proofs.lemmas.Bool.{cases_Bool, cases_lt}
use Rattle.spx_link.specs.declared.numbers.Numbers.{Numbers}
use Rattle.spx_congestion.specs.Hearing.{Hears}
use Rattle.spx_congestion.specs.Pacing.{PacerView, Tends, is_double, tended, with_outstanding}
use Rattle.theory_processes.specs.PacedExist.{IsUsable, StaysUsable}
use Rattle.theory_processes.proofs.Existing.{usable_counted, usable_given, usable_tended}

abbrev Ends : PacerView → Type 0
Ends p = p.mends ≡ true → is_some p.recover ≡ true

planned : (p q : PacerView) (out now : ℕ) → Tends p out now q → IsUsable p → IsUsable q
planned p q out now t u =
    let w : IsUsable (tended (with_outstanding p out now) now) = usable_tended (with_outstanding p out now) now (usable_counted p out now u) in
    record { timed = t.timed; repairs = subst Ends (sym t.due) w.repairs }

told : (p q : PacerView) (x y : Numbers) (joined : Bool) (now : ℕ) → Hears p x y joined now q → IsUsable p → IsUsable q
told p q x y joined now h u = record { timed = h.timed; repairs = ⊎_elim acked other (cases_lt y.out x.out) }
  where
    acked : y.out < x.out → Ends q
    acked less =
        elim (h.moves less) [
          | inl plain ↦ subst Ends (sym plain.1) u.repairs
          | inr repairs ↦ elim repairs.2 [
            | inl goes ↦ subst Ends (sym goes.1.is) u.repairs
            | inr (inl ends) ↦ subst Ends (sym ends.1.is) (λ is. absurd (cc is))
            | inr (inr next) ↦ subst Ends (sym next.3.is) (λ is. refl)
          ]
        ]

    other : x.out ≤ y.out → Ends q
    other none =
        elim (cases_Bool (is_double x y)) [
          | inl double ↦ elim (h.repeated double) [
            | inl one ↦ subst Ends (sym one.is) u.repairs
            | inr begins ↦ subst Ends (sym begins.begins.is) (λ is. refl)
          ]
          | inr single ↦ subst Ends (sym (h.counted none single)) u.repairs
        ]

pub stays : StaysUsable
stays =
    record {
      made = record { timed = (omega arith, omega arith); repairs = λ is. absurd (cc is) };
      plans = planned;
      hears = told;
      gives = λ p what out now u. usable_given (with_outstanding p out now) what now (usable_counted p out now u);
    }
