-- What a plan changes about a pacer, and what the packets that its link gives change.
use Rattle.std.proofs.Common.{ℕ, ◌+◌, ◌-◌, ◌^◌, ◌<◌, ◌≤◌, ◌≡◌, ◌⊎◌, ◌&&◌, ◌∙◌, Bool, true, false, Option, None, Some, min, nat_lt, refl, sym, ap, subst, inl, inr, arith, if◌then◌else◌}
use Rattle.std.proofs.lemmas.Bool.{cases_Bool, lt-leb, lt-ltb, ltb-false, ltb-true}
use Rattle.std.specs.Prelude.{option_map, unwrap_or}
use Rattle.spx_congestion.specs.declared.sent_kind.SentKind.{SentKind}
use Rattle.spx_congestion.specs.declared.sent_kind.SentKind.TheVariants as Gaves
use Rattle.spx_congestion.specs.Pacing.{PacerView, Tends, given_by, has_credit, is_over, missing_at, place_again, plan_of, saturating_sum, tended, wait_of, waited_since, waits_till, with_outstanding}
use Rattle.spx_congestion.specs.Saving.{HasSaved, gives, plans}
use Rattle.spx_congestion.specs.Waiting.{TimesOut, WaitsAreBounded}

-- ---- what is due by itself

-- after a timeout, and with a unit that is missing again
abbrev timed_out : PacerView → ℕ → PacerView
timed_out p now =
    record p {
      left = p.out;
      in_flight = 0;
      from = p.base;
      to = saturating_sum p.base 1;
      trip = record p.trip { doubled = min (p.trip.doubled + 1) (2 ^ 32 - 1) };
      timer = Some now;
      recover = Some (saturating_sum p.base p.out);
      run = 1;
      fixed = saturating_sum p.base 1;
      mends = false;
      fixed_at = now;
      tries = 0;
    }

abbrev missing : PacerView → PacerView
missing p = record p { from = p.base; to = saturating_sum p.base 1; tries = min (p.tries + 1) (2 ^ 32 - 1) }

part_if : {A : Type 0} (f : PacerView → A) (b c d : Bool) (x y q : PacerView) → c ≡ b → f y ≡ f q
    → f (if c then x else (if d then y else q)) ≡ (if b then f x else f q)
part_if f true true d x y q is same = refl
part_if f true false d x y q is same = absurd (cc is)
part_if f false true d x y q is same = absurd (cc is)
part_if f false false true x y q is same = same
part_if f false false false x y q is same = refl

-- a part of a pacer that changes only with a timeout
tended_part : {A : Type 0} (f : PacerView → A) (b : Bool) (w : PacerView) (now : ℕ) → is_over (waits_till w) now ≡ b → f (missing w) ≡ f w
    → f (tended w now) ≡ (if b then f (timed_out w now) else f w)
tended_part f b w now is same = part_if f b (is_over (waits_till w) now) (is_over (missing_at w) now) (timed_out w now) (missing w) w is same

kept_if : {A : Type 0} (b : Bool) (x y : A) → x ≡ y → (if b then x else y) ≡ y
kept_if true x y same = same
kept_if false x y same = refl

-- and one that never does
tended_keeps : (f : PacerView → ℕ) (w : PacerView) (now : ℕ) → f (timed_out w now) ≡ f w → f (missing w) ≡ f w → f (tended w now) ≡ f w
tended_keeps f w now timed same =
    let b = is_over (waits_till w) now in
    tended_part f b w now refl same ∙ kept_if b (f (timed_out w now)) (f w) timed

pub plan_base : (p q : PacerView) (out now : ℕ) → Tends p out now q → q.base ≡ p.base
plan_base p q out now t = ap (λ (z : PacerView). z.base) t.due ∙ tended_keeps (λ z. z.base) (with_outstanding p out now) now refl refl

pub plan_out : (p q : PacerView) (out now : ℕ) → Tends p out now q → q.out ≡ out
plan_out p q out now t = ap (λ (z : PacerView). z.out) t.due ∙ tended_keeps (λ z. z.out) (with_outstanding p out now) now refl refl

pub plan_tick : (p q : PacerView) (out now : ℕ) → Tends p out now q → p.tick ≤ now → q.tick ≡ now
plan_tick p q out now t before = omega (arith, t.grows.tick, before)

-- ---- the first outstanding unit is to be sent again

abbrev pub AtFirst : PacerView → Type 0
AtFirst p = (p.from ≡ p.base) × (p.to ≡ saturating_sum p.base 1)

-- the next plan has it so
abbrev pub ComesFirst : PacerView → ℕ → ℕ → Type 0
ComesFirst p out now = TimesOut p out now ⊎ AtFirst p

first_if : (b c : Bool) (x y q : PacerView) → AtFirst x → AtFirst y → (b ≡ true) ⊎ AtFirst q → AtFirst (if b then x else (if c then y else q))
first_if true c x y q one two was = one
first_if false true x y q one two was = two
first_if false false x y q one two (inl is) = absurd (cc is)
first_if false false x y q one two (inr first) = first

pub plan_first : (p q : PacerView) (out now : ℕ) → Tends p out now q → ComesFirst p out now → AtFirst q
plan_first p q out now t comes =
    let w = with_outstanding p out now in
    subst AtFirst (sym t.due)
    (first_if (is_over (waits_till w) now) (is_over (missing_at w) now) (timed_out w now) (missing w) w (refl, refl) (refl, refl) comes)

first_place : (from base to out : ℕ) → from ≡ base → to ≡ saturating_sum base 1 → 0 < out → base + 1 < 2 ^ 64
    → (if nat_lt from to && nat_lt base to && nat_lt (from - base) out then Some (from - base) else None) ≡ Some 0
first_place from base to out low high some fits =
    let zero_is : from - base ≡ 0 = omega (arith, low) in
    rw (lt-ltb from to (omega (arith, low, high, fits))) (rw (lt-ltb base to (omega (arith, high, fits))) (rw (lt-ltb (from - base) out (omega (arith, zero_is, some))) (ap (λ n. Some n) zero_is)))

plan_is : (q : PacerView) → has_credit q ≡ true → place_again q ≡ Some 0 → plan_of q ≡ record { window = 0; again = Some 0 }
plan_is q has place = rw has (rw place refl)

-- so the plan is to send it again, and nothing else
pub plan_again : (p q : PacerView) (out now : ℕ) → Tends p out now q → ComesFirst p out now → 0 < out → p.base + 1 < 2 ^ 64 → has_credit q ≡ true
    → plan_of q ≡ record { window = 0; again = Some 0 }
plan_again p q out now t comes some fits has =
    let first = plan_first p q out now t comes in
    plan_is q has (first_place q.from q.base q.to q.out first.0 first.1 (omega (arith, plan_out p q out now t, some)) (omega (arith, plan_base p q out now t, fits)))

-- ---- timeouts

-- the wait begins now, or there is none
abbrev pub BeginsNow : Option ℕ → ℕ → Type 0
BeginsNow timer now = (timer ≡ Some now) ⊎ (timer ≡ None)

begins_if : (b : Bool) (timer : Option ℕ) (now : ℕ) → BeginsNow timer now → BeginsNow (if b then Some (unwrap_or timer now) else None) now
begins_if true timer now (inl is) = inl (ap (λ (o : Option ℕ). Some (unwrap_or o now)) is)
begins_if true timer now (inr is) = inl (ap (λ (o : Option ℕ). Some (unwrap_or o now)) is)
begins_if false timer now begins = inr refl

begins_counted : (timer : Option ℕ) (out now : ℕ) → BeginsNow timer now → BeginsNow (waited_since timer out now) now
begins_counted timer out now begins = begins_if (nat_lt 0 out) timer now begins

not_over : (timer : Option ℕ) (wait now : ℕ) → BeginsNow timer now → 0 < wait → now < 2 ^ 64 - 1 → is_over (option_map (λ s. saturating_sum s wait) timer) now ≡ false
not_over timer wait now (inl is) long shown = rw is (lt-leb (saturating_sum now wait) now (omega (arith, long, shown)))
not_over timer wait now (inr is) long shown = rw is refl

-- the timer and the count of timeouts after a plan, if that counts a timeout and if it does not
pub timer_of : (p q : PacerView) (out now : ℕ) (b : Bool) → Tends p out now q → is_over (waits_till (with_outstanding p out now)) now ≡ b
    → q.timer ≡ (if b then Some now else waited_since p.timer out now)
timer_of p q out now b t is = ap (λ (z : PacerView). z.timer) t.due ∙ tended_part (λ z. z.timer) b (with_outstanding p out now) now is refl

doubled_of : (p q : PacerView) (out now : ℕ) (b : Bool) → Tends p out now q → is_over (waits_till (with_outstanding p out now)) now ≡ b
    → q.trip.doubled ≡ (if b then min (p.trip.doubled + 1) (2 ^ 32 - 1) else p.trip.doubled)
doubled_of p q out now b t is = ap (λ (z : PacerView). z.trip.doubled) t.due ∙ tended_part (λ z. z.trip.doubled) b (with_outstanding p out now) now is refl

-- after the first plan of a round with this pacer and so many units outstanding, no more timeouts come
pub record Timed (p0 : PacerView) (out0 now : ℕ) (p : PacerView) : Type 0 where
  pub begins : BeginsNow p.timer now
  pub few : p.trip.doubled ≤ p0.trip.doubled + 1
  pub none : out0 ≡ 0 → p.trip.doubled ≡ p0.trip.doubled

none_counted : (timer : Option ℕ) (out now : ℕ) → out ≡ 0 → waited_since timer out now ≡ None
none_counted timer out now none = rw none refl

none_over : (timer : Option ℕ) (wait now : ℕ) → timer ≡ None → is_over (option_map (λ s. saturating_sum s wait) timer) now ≡ false
none_over timer wait now none = rw none refl

pub first_plan : (p q : PacerView) (out now : ℕ) → Tends p out now q → (0 < out → TimesOut p out now) → Timed p out now q
first_plan p q out now t waited = by (cases_Bool (nat_lt 0 out))
  where
    timed : TimesOut p out now → 0 < out → Timed p out now q
    timed over some =
        let doubled : q.trip.doubled ≡ min (p.trip.doubled + 1) (2 ^ 32 - 1) = doubled_of p q out now true t over in
        record { begins = inl (timer_of p q out now true t over); few = omega (arith, doubled); none = λ none. absurd (omega (arith, none, some)) }

    rested : out ≡ 0 → Timed p out now q
    rested none =
        let empty : waited_since p.timer out now ≡ None = none_counted p.timer out now none in
        let yet : is_over (waits_till (with_outstanding p out now)) now ≡ false = none_over (waited_since p.timer out now) (wait_of (with_outstanding p out now)) now empty in
        let doubled : q.trip.doubled ≡ p.trip.doubled = doubled_of p q out now false t yet in
        record { begins = inr (timer_of p q out now false t yet ∙ empty); few = omega (arith, doubled); none = λ e. doubled }

    by : (nat_lt 0 out ≡ true) ⊎ (nat_lt 0 out ≡ false) → Timed p out now q
    by (inl some) = let more : 0 < out = ltb-true 0 out some in timed (waited more) more
    by (inr none) = let less : out ≤ 0 = ltb-false 0 out none in rested (omega (arith, less))

pub next_plan : (waits : WaitsAreBounded) (p0 : PacerView) (out0 : ℕ) (p q : PacerView) (out now : ℕ) → Tends p out now q → now < 2 ^ 64 - 1 → Timed p0 out0 now p → Timed p0 out0 now q
next_plan waits p0 out0 p q out now t shown was =
    let w = with_outstanding p out now in
    let long = (waits p q out now t).0 in
    let counted : BeginsNow (waited_since p.timer out now) now = begins_counted p.timer out now was.begins in
    let yet : is_over (waits_till w) now ≡ false = not_over (waited_since p.timer out now) (wait_of w) now counted (omega (arith, long)) shown in
    let doubled : q.trip.doubled ≡ p.trip.doubled = doubled_of p q out now false t yet in
    record {
      begins = subst (λ o. BeginsNow o now) (sym (timer_of p q out now false t yet)) counted;
      few = omega (arith, doubled, was.few);
      none = λ e. doubled ∙ was.none e;
    }

-- ---- a packet that was given

pub given_base : (p : PacerView) (what : SentKind) (now : ℕ) → (given_by p what now).base ≡ p.base
given_base p Gaves.Request now = refl
given_base p Gaves.Unit now = refl
given_base p Gaves.End now = refl
given_base p Gaves.Again now = refl
given_base p Gaves.Other now = refl

pub given_tick : (p : PacerView) (what : SentKind) (now : ℕ) → (given_by p what now).tick ≡ p.tick
given_tick p Gaves.Request now = refl
given_tick p Gaves.Unit now = refl
given_tick p Gaves.End now = refl
given_tick p Gaves.Again now = refl
given_tick p Gaves.Other now = refl

pub given_timer : (p : PacerView) (what : SentKind) (now : ℕ) → (given_by p what now).timer ≡ p.timer
given_timer p Gaves.Request now = refl
given_timer p Gaves.Unit now = refl
given_timer p Gaves.End now = refl
given_timer p Gaves.Again now = refl
given_timer p Gaves.Other now = refl

given_doubled : (p : PacerView) (what : SentKind) (now : ℕ) → (given_by p what now).trip.doubled ≡ p.trip.doubled
given_doubled p Gaves.Request now = refl
given_doubled p Gaves.Unit now = refl
given_doubled p Gaves.End now = refl
given_doubled p Gaves.Again now = refl
given_doubled p Gaves.Other now = refl

pub timed_given : (p0 : PacerView) (out0 : ℕ) (q : PacerView) (what : SentKind) (out now : ℕ) → Timed p0 out0 now q → Timed p0 out0 now (given_by (with_outstanding q out now) what now)
timed_given p0 out0 q what out now was =
    let w = with_outstanding q out now in
    let doubled : (given_by w what now).trip.doubled ≡ q.trip.doubled = given_doubled w what now in
    record {
      begins = subst (λ o. BeginsNow o now) (sym (given_timer w what now)) (begins_counted q.timer out now was.begins);
      few = omega (arith, doubled, was.few);
      none = λ e. doubled ∙ was.none e;
    }

-- a packet that costs no credit
abbrev pub IsFree : SentKind → Type 0
IsFree what = (what ≡ Gaves.Other)

pub saved_given : (p q : PacerView) (since out out' now : ℕ) (what : SentKind) → IsFree what → HasSaved p since → Tends p out now q → HasSaved (given_by (with_outstanding q out' now) what now) since
saved_given p q since out out' now what free saved t =
    gives q since what out' now (plans p q since out now saved t) (rw free refl)

pub first_given : (q : PacerView) (out now : ℕ) (what : SentKind) → IsFree what → AtFirst q → AtFirst (given_by (with_outstanding q out now) what now)
first_given q out now what free first = rw free first
