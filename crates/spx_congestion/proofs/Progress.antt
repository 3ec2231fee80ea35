-- A pacer whose credit has grown for a quarter of a second lets a unit go.
use Rattle.std.proofs.Common.{◌≡◌, ◌+◌, ◌-◌, ◌*◌, ◌/◌, ◌^◌, ◌∙◌, ◌<◌, ◌≤◌, ℕ, Bool, true, false, Some, None, arith, max, min, refl, subst, sym}
use Rattle.std.proofs.Math.Nat.{mul-le-mul_right}
use Rattle.std.proofs.lemmas.Bool.{lt-ltb, ltb-false, ltb-true}
use Rattle.std.specs.Prelude.{◌&&◌, if◌then◌else◌, nat_lt}
use Rattle.spx_congestion.specs.Pacing.{GrowsCredit, PacerView, Tends, saturating_sum, credit_after, given_by, grown_credit, has_credit, is_over, missing_at, open_to, place_again, plan_of, rate_of, spare, with_outstanding}
use Rattle.spx_congestion.specs.Saving.{HasSaved, PlansGoOn, begins, plans, hears, gives}
use Rattle.spx_congestion.specs.declared.sent_kind.SentKind.{SentKind}
use Rattle.spx_congestion.specs.declared.sent_kind.SentKind.TheVariants as Gaves

-- the credit grows by a 256th of a unit each millisecond at least, up to ten units
one_at_least : (n : ℕ) → 1 ≤ min (max n 1) 8192
one_at_least n = omega arith

grown_by : (rate credit tick since gone : ℕ) → 1 ≤ rate → min (tick - since) 2560 ≤ credit
    → min ((tick + gone) - since) 2560 ≤ min (credit + rate * gone) (max (rate * 4) 2560)
grown_by rate credit tick since gone some had =
    let more : 1 * gone ≤ rate * gone = mul-le-mul_right gone some in
    omega (arith, more, had)

grown_if : (b : Bool) (rate credit tick now since : ℕ) → nat_lt tick now ≡ b → 1 ≤ rate → min (tick - since) 2560 ≤ credit
    → min (max tick now - since) 2560 ≤ (if b then min (credit + rate * (now - tick)) (max (rate * 4) 2560) else credit)
grown_if true rate credit tick now since is some had =
    let later : tick < now = ltb-true tick now is in
    let all : tick + (now - tick) ≡ max tick now = omega (arith, later) in
    subst (λ (n : ℕ). min (n - since) 2560 ≤ min (credit + rate * (now - tick)) (max (rate * 4) 2560)) all
    (grown_by rate credit tick since (now - tick) some had)
grown_if false rate credit tick now since is some had =
    let same : max tick now ≡ tick = (let before = ltb-false tick now is in omega (arith, before)) in
    subst (λ (n : ℕ). min (n - since) 2560 ≤ credit) (sym same) had

grows : (old new : PacerView) (now since : ℕ) → GrowsCredit old now new → min (old.tick - since) 2560 ≤ old.credit
    → min (new.tick - since) 2560 ≤ new.credit
grows old new now since g had =
    let trip = new.trip.smoothed in
    let rate = rate_of g.starting new.window trip in
    let some : 1 ≤ rate = one_at_least ((if g.starting then new.window * 2 else new.window * 5 / 4) / max trip 1) in
    let all = grown_if (nat_lt old.tick now) rate old.credit old.tick now since refl some had in
    subst (λ (n : ℕ). min (new.tick - since) 2560 ≤ n) (sym g.credit)
    (subst (λ (n : ℕ). min (n - since) 2560 ≤ grown_credit rate old now) (sym g.tick) all)

given_credit : (p : PacerView) (what : SentKind) (now : ℕ) → (given_by p what now).credit ≡ credit_after p.credit what
given_credit p Gaves.Request now = refl
given_credit p Gaves.Unit now = refl
given_credit p Gaves.End now = refl
given_credit p Gaves.Again now = refl
given_credit p Gaves.Other now = refl

given_tick : (p : PacerView) (what : SentKind) (now : ℕ) → (given_by p what now).tick ≡ p.tick
given_tick p Gaves.Request now = refl
given_tick p Gaves.Unit now = refl
given_tick p Gaves.End now = refl
given_tick p Gaves.Again now = refl
given_tick p Gaves.Other now = refl

-- so a pacer that gave no unit has the credit of all the time
saved : (p : PacerView) (since : ℕ) → HasSaved p since → min (p.tick - since) 2560 ≤ p.credit
saved p since (begins q s before) = omega (arith, before)
saved p since (plans old new s out now before t) = grows old new now s t.grows (saved old s before)
saved p since (hears old new s b a joined now before heard) =
    let had = saved old s before in
    let credit = heard.credit.0 in
    let tick = heard.credit.1 in
    omega (arith, had, credit, tick)
saved p since (gives old s what out now before free) =
    let had = saved old s before in
    let w = with_outstanding old out now in
    let credit : (given_by w what now).credit ≡ old.credit = given_credit w what now ∙ free in
    let tick : (given_by w what now).tick ≡ old.tick = given_tick w what now in
    omega (arith, had, credit, tick)

-- no unit is outstanding, or was sent again, whatever is due
idle_if : (b : Bool) (x y : PacerView) → (x.out ≡ 0) × (x.in_flight ≡ 0) → (y.out ≡ 0) × (y.in_flight ≡ 0)
    → ((if b then x else y).out ≡ 0) × ((if b then x else y).in_flight ≡ 0)
idle_if true x y p q = p
idle_if false x y p q = q

idle_of : (old new : PacerView) (now : ℕ) → Tends old 0 now new → (new.out ≡ 0) × (new.in_flight ≡ 0)
idle_of old new now tends =
    let w = with_outstanding old 0 now in
    let x = record w { from = w.base; to = saturating_sum w.base 1; tries = min (w.tries + 1) (2 ^ 32 - 1) } in
    let P : PacerView → Type 0 = λ p. (p.out ≡ 0) × (p.in_flight ≡ 0) in
    subst P (sym tends.due) (idle_if (is_over (missing_at w) now) x w (refl, refl) (refl, refl))

-- if none is outstanding, none is to be sent again
and_false : (a b c : Bool) → c ≡ false → (a && b && c) ≡ false
and_false true true c e = e
and_false true false c e = refl
and_false false b c e = refl

none_if : (b : Bool) (n : ℕ) → b ≡ false → (if b then Some n else None) ≡ None
none_if b n e = rw e refl

none_below : (n out : ℕ) → out ≡ 0 → nat_lt n out ≡ false
none_below n out e = grind (arith, e)

none_again : (p : PacerView) → p.out ≡ 0 → place_again p ≡ None
none_again p e =
    none_if (nat_lt p.from p.to && nat_lt p.base p.to && nat_lt (p.from - p.base) p.out) (p.from - p.base)
    (and_false (nat_lt p.from p.to) (nat_lt p.base p.to) (nat_lt (p.from - p.base) p.out) (none_below (p.from - p.base) p.out e))

-- so new ones go as the window and the credit allow
some_open : (out left in_flight window credit : ℕ) → out ≡ 0 → in_flight ≡ 0 → 256 ≤ credit → 1024 ≤ window
    → 0 < min (out + min (window / 256 - ((out - left) + in_flight)) (credit / 256)) 8192
some_open out left in_flight window credit is_out is_sent credits wide = omega (arith, is_out, is_sent, credits, wide)

some_spare : (out left in_flight window : ℕ) → out ≡ 0 → in_flight ≡ 0 → 1024 ≤ window → 0 < window / 256 - ((out - left) + in_flight)
some_spare out left in_flight window is_out is_sent wide = omega (arith, is_out, is_sent, wide)

-- with none outstanding, and so none counted, the window allows some
pub spares : (old new : PacerView) (out now : ℕ) → Tends old out now new → out ≡ 0 → (0 < spare new) × (new.out ≡ 0)
spares old new out now tends none =
    let tends' : Tends old 0 now new = subst (λ n. Tends old n now new) none tends in
    let idle = idle_of old new now tends' in
    (some_spare new.out new.left new.in_flight new.window idle.0 idle.1 tends'.wide.0, idle.0)

opens : (p : PacerView) → has_credit p ≡ true → place_again p ≡ None → (plan_of p).window ≡ open_to p
opens p has none = rw has (rw none refl)

-- a plan 256 ms later lets a unit go
pub goes_on : PlansGoOn
goes_on p new since out now before t =
    let all = saved new since (plans p new since out now before t) in
    let tick = t.grows.tick in
    let credit : min (now - since) 2560 ≤ new.credit = omega (arith, all, tick) in (
      credit,
      λ (long : since + 256 ≤ now). lt-ltb 255 new.credit (omega (arith, credit, long)),
      λ (long : since + 256 ≤ now) (none : out ≡ 0).
          let tends : Tends p 0 now new = subst (λ n. Tends p n now new) none t in
          let idle = idle_of p new now tends in
          let has : 256 ≤ new.credit = omega (arith, credit, long) in
          let open_window = some_open new.out new.left new.in_flight new.window new.credit idle.0 idle.1 has t.wide.0 in
          subst (λ (n : ℕ). 0 < n) (sym (opens new (lt-ltb 255 new.credit (omega (arith, has))) (none_again new idle.0))) open_window,
    )
