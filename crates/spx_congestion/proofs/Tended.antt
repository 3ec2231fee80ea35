-- What is due by itself changes no credit, and no time at which a unit was given.
use Rattle.std.proofs.Common.{◌≡◌, ◌+◌, ◌^◌, ◌-◌, ℕ, Bool, true, false, Some, min, refl}
use Rattle.std.specs.Prelude.{if◌then◌else◌}
use Rattle.spx_congestion.specs.Pacing.{PacerView, saturating_sum, is_over, missing_at, tended, waits_till}

same_if : {A : Type 0} (f : PacerView → A) (b : Bool) (x y : PacerView) (n : A) → f x ≡ n → f y ≡ n → f (if b then x else y) ≡ n
same_if f true x y n p q = p
same_if f false x y n p q = q

-- a part of a pacer that is the same whatever is due
kept : {A : Type 0} (f : PacerView → A) (p : PacerView) (now : ℕ)
    → f (record p { left = p.out; in_flight = 0; from = p.base; to = saturating_sum p.base 1; trip = record p.trip { doubled = min (p.trip.doubled + 1) (2 ^ 32 - 1) }; timer = Some now; recover = Some (saturating_sum p.base p.out); run = 1; fixed = saturating_sum p.base 1; mends = false; fixed_at = now; tries = 0 }) ≡ f p
    → f (record p { from = p.base; to = saturating_sum p.base 1; tries = min (p.tries + 1) (2 ^ 32 - 1) }) ≡ f p → f (tended p now) ≡ f p
kept f p now timed again =
    let x = record p { left = p.out; in_flight = 0; from = p.base; to = saturating_sum p.base 1; trip = record p.trip { doubled = min (p.trip.doubled + 1) (2 ^ 32 - 1) }; timer = Some now; recover = Some (saturating_sum p.base p.out); run = 1; fixed = saturating_sum p.base 1; mends = false; fixed_at = now; tries = 0 } in
    let y = record p { from = p.base; to = saturating_sum p.base 1; tries = min (p.tries + 1) (2 ^ 32 - 1) } in
    same_if f (is_over (waits_till p) now) x (if is_over (missing_at p) now then y else p) (f p) timed
    (same_if f (is_over (missing_at p) now) y p (f p) again refl)

pub tended_wait : (p : PacerView) (now : ℕ) → (tended p now).trip.wait ≡ p.trip.wait
tended_wait p now = kept (λ q. q.trip.wait) p now refl refl

pub tended_credit : (p : PacerView) (now : ℕ) → (tended p now).credit ≡ p.credit
tended_credit p now = kept (λ q. q.credit) p now refl refl

pub tended_tick : (p : PacerView) (now : ℕ) → (tended p now).tick ≡ p.tick
tended_tick p now = kept (λ q. q.tick) p now refl refl

pub tended_base : (p : PacerView) (now : ℕ) → (tended p now).base ≡ p.base
tended_base p now = kept (λ q. q.base) p now refl refl

pub tended_out : (p : PacerView) (now : ℕ) → (tended p now).out ≡ p.out
tended_out p now = kept (λ q. q.out) p now refl refl

pub tended_sent : (p : PacerView) (now : ℕ) → (tended p now).sent ≡ p.sent
tended_sent p now = kept (λ q. q.sent) p now refl refl
