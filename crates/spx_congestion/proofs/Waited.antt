-- When a pacer counts a timeout.
use Rattle.std.proofs.Common.{◌≡◌, ◌+◌, ◌-◌, ◌*◌, ◌^◌, ◌∙◌, ◌≤◌, ◌<◌, ◌⊎◌, ℕ, Bool, true, false, Option, None, Some, ap, arith, max, min, refl, sym, subst, ⊎_elim}
use Rattle.std.proofs.lemmas.Bool.{leb-true, le-leb, lt-ltb}
use Rattle.std.specs.Prelude.{◌&&◌, if◌then◌else◌, nat_lt, option_map, unwrap_or}
use Rattle.spx_congestion.specs.Pacing.{PacerView, TakesOut, Tends, WaitsOn, asks_often, saturating_sum, flight, given_by, is_over, missing_at, place_again, tended, wait_of, waited_since, waits_till, with_outstanding}
use Rattle.spx_congestion.specs.Waiting.{HasNoNews, HasWaited, NothingElsePostpones, TimeoutsLast, TimesOut, WaitsAreBounded, begins, plans, hears, gives, begins_to, times_out, tends, reads, sends}
use Rattle.spx_congestion.specs.declared.sent_kind.SentKind.{SentKind}
use Rattle.spx_congestion.specs.declared.sent_kind.SentKind.TheVariants as Gaves
use Rattle.spx_congestion.proofs.Tended.{tended_wait}

-- since when it waits, once units were counted
waited_same : (timer : Option ℕ) (out now since : ℕ) → timer ≡ Some since → 0 < out → waited_since timer out now ≡ Some since
waited_same timer out now since is some = rw (lt-ltb 0 out some) (ap (λ (t : Option ℕ). Some (unwrap_or t now)) is)

timed_if : (b c : Bool) (x y p : PacerView) (t : Option ℕ) → c ≡ b → y.timer ≡ p.timer → x.timer ≡ t
    → (if c then x else y).timer ≡ (if b then t else p.timer)
timed_if true c x y p t is same timed = rw is timed
timed_if false c x y p t is same timed = rw is same

same_timer_if : (b : Bool) (x p : PacerView) → x.timer ≡ p.timer → (if b then x else p).timer ≡ p.timer
same_timer_if true x p same = same
same_timer_if false x p same = refl

-- a timeout begins the next wait, and otherwise the wait goes on
tended_timer : (p : PacerView) (now : ℕ) (b : Bool) → is_over (waits_till p) now ≡ b → (tended p now).timer ≡ (if b then Some now else p.timer)
tended_timer p now b is =
    let x = record p { left = p.out; in_flight = 0; from = p.base; to = saturating_sum p.base 1; trip = record p.trip { doubled = min (p.trip.doubled + 1) (2 ^ 32 - 1) }; timer = Some now; recover = Some (saturating_sum p.base p.out); run = 1; fixed = saturating_sum p.base 1; mends = false; fixed_at = now; tries = 0 } in
    let y = record p { from = p.base; to = saturating_sum p.base 1; tries = min (p.tries + 1) (2 ^ 32 - 1) } in
    timed_if b (is_over (waits_till p) now) x (if is_over (missing_at p) now then y else p) p (Some now) is
    (same_timer_if (is_over (missing_at p) now) y p refl) refl

tends_timer : (old new : PacerView) (out now : ℕ) (b : Bool) → Tends old out now new → is_over (waits_till (with_outstanding old out now)) now ≡ b
    → new.timer ≡ (if b then Some now else waited_since old.timer out now)
tends_timer old new out now b t is = ap (λ (p : PacerView). p.timer) t.due ∙ tended_timer (with_outstanding old out now) now b is

given_timer : (p : PacerView) (what : SentKind) (now : ℕ) → (given_by p what now).timer ≡ p.timer
given_timer p Gaves.Request now = refl
given_timer p Gaves.Unit now = refl
given_timer p Gaves.End now = refl
given_timer p Gaves.Again now = refl
given_timer p Gaves.Other now = refl

-- a packet without news changes no wait
no_news : (old new : PacerView) (out now : ℕ) → WaitsOn old out now new
    → (flight (with_outstanding old out now) ≤ flight new) ⊎ (0 < old.trip.doubled) → new.timer ≡ waited_since old.timer out now
no_news old new out now waits still =
    ⊎_elim (λ same. same)
    (λ (anew : (new.timer ≡ Some now) × TakesOut old out now new).
    let fewer = anew.1.fewer in
    let first = anew.1.first in
    ⊎_elim (λ (more : flight (with_outstanding old out now) ≤ flight new). absurd (omega (arith, more, fewer)))
    (λ (timed : 0 < old.trip.doubled). absurd (omega (arith, timed, first))) still) waits

waits_since : (p : PacerView) (since : ℕ) → HasNoNews p since → p.timer ≡ Some since
waits_since p since (begins q s is) = is
waits_since p since (plans old new s out now before some t yet) =
    tends_timer old new out now false t yet ∙ waited_same old.timer out now s (waits_since old s before) some
waits_since p since (hears old new s now b a before some none) =
    no_news old new a.out now none.waits none.still ∙ waited_same old.timer a.out now s (waits_since old s before) some
waits_since p since (gives old s what out now before some) =
    given_timer (with_outstanding old out now) what now ∙ waited_same old.timer out now s (waits_since old s before) some

-- what is over
over : (timer : Option ℕ) (since wait now : ℕ) → timer ≡ Some since → since + wait ≤ now → is_over (option_map (λ s. saturating_sum s wait) timer) now ≡ true
over timer since wait now is past = rw is (le-leb (saturating_sum since wait) now (omega (arith, past)))

if_true : (b : Bool) (x y : PacerView) → b ≡ true → (if b then x else y) ≡ x
if_true b x y is = rw is refl

first_again : (base out : ℕ) → 0 < out → base + 1 < 2 ^ 64
    → (if nat_lt base (saturating_sum base 1) && nat_lt base (saturating_sum base 1) && nat_lt (base - base) out then Some (base - base) else None) ≡ Some 0
first_again base out some fits =
    let zero_is : base - base ≡ 0 = omega (arith) in
    rw (lt-ltb base (saturating_sum base 1) (omega (arith, fits))) (rw (lt-ltb (base - base) out (omega (arith, zero_is, some))) (ap (λ n. Some n) zero_is))

pub postpones : NothingElsePostpones
postpones p new since out now none some t past fits =
    let w = with_outstanding p out now in
    let x = record w { left = w.out; in_flight = 0; from = w.base; to = saturating_sum w.base 1; trip = record w.trip { doubled = min (w.trip.doubled + 1) (2 ^ 32 - 1) }; timer = Some now; recover = Some (saturating_sum w.base w.out); run = 1; fixed = saturating_sum w.base 1; mends = false; fixed_at = now; tries = 0 } in
    let y = record w { from = w.base; to = saturating_sum w.base 1; tries = min (w.tries + 1) (2 ^ 32 - 1) } in
    let timed : TimesOut p out now = over w.timer since (wait_of w) now (waited_same p.timer out now since (waits_since p since none) some) past in
    let tended_is : tended w now ≡ x = if_true (is_over (waits_till w) now) x (if is_over (missing_at w) now then y else w) timed in
    let again : place_again (tended w now) ≡ Some 0 = ap (λ q. place_again q) tended_is ∙ first_again p.base out some fits in
    (timed, ap (λ q. place_again q) t.due ∙ again)

-- the bounds of a wait
bounded : (b : Bool) (wait more : ℕ) → 200 ≤ wait → wait ≤ 60000
    → (200 ≤ (if b then max (max (min more 4000) wait) (min (max wait 500) 1000) else max (min more 4000) wait))
    × ((if b then max (max (min more 4000) wait) (min (max wait 500) 1000) else max (min more 4000) wait) ≤ 60000)
bounded true wait more least most = (omega (arith, least, most), omega (arith, least, most))
bounded false wait more least most = (omega (arith, least, most), omega (arith, least, most))

pub are_bounded : WaitsAreBounded
are_bounded old new out now t =
    let w = with_outstanding old out now in
    let same : new.trip.wait ≡ w.trip.wait = ap (λ (p : PacerView). p.trip.wait) t.due ∙ tended_wait w now in
    let least = t.timed.0 in
    let most = t.timed.1 in
    bounded (asks_often w) w.trip.wait (w.trip.wait * 2 ^ w.trip.doubled) (omega (arith, same, least)) (omega (arith, same, most))

-- nothing is waited for, or since this time or later
abbrev SinceAtLeast : Option ℕ → ℕ → Type 0
SinceAtLeast timer lo = (t : ℕ) → timer ≡ Some t → lo ≤ t

some_is : (n m : ℕ) → Some n ≡ Some m → n ≡ m
some_is n m is = ap (λ (o : Option ℕ). unwrap_or o 0) is

now_at_least : (now lo : ℕ) → lo ≤ now → SinceAtLeast (Some now) lo
now_at_least now lo late t is = let same = some_is now t is in omega (arith, same, late)

counted_if : (b : Bool) (timer : Option ℕ) (now lo : ℕ) → SinceAtLeast timer lo → lo ≤ now → SinceAtLeast (if b then Some (unwrap_or timer now) else None) lo
counted_if true None now lo since late = now_at_least now lo late
counted_if true (Some s) now lo since late = since
counted_if false timer now lo since late = λ t is. absurd (cc)

counted_at_least : (timer : Option ℕ) (out now lo : ℕ) → SinceAtLeast timer lo → lo ≤ now → SinceAtLeast (waited_since timer out now) lo
counted_at_least timer out now lo since late = counted_if (nat_lt 0 out) timer now lo since late

-- a wait that is over lasted so long
lasted : (timer : Option ℕ) (wait now lo : ℕ) → SinceAtLeast timer lo → is_over (option_map (λ s. saturating_sum s wait) timer) now ≡ true
    → 200 ≤ wait → now < 2 ^ 64 - 1 → lo + 200 ≤ now
lasted None wait now lo since is long fits = absurd (cc)
lasted (Some s) wait now lo since is long fits =
    let late = since s refl in
    let past : saturating_sum s wait ≤ now = leb-true (saturating_sum s wait) now is in
    omega (arith, late, past, long, fits)

at_least : (x y : Option ℕ) (lo : ℕ) → x ≡ y → SinceAtLeast y lo → SinceAtLeast x lo
at_least x y lo is since = subst (λ o. SinceAtLeast o lo) (sym is) since

since_last : (p : PacerView) (since count last : ℕ) → HasWaited p since count last
    → (since + count * 200 ≤ last) × SinceAtLeast p.timer (since + count * 200)
since_last p since count last (begins_to q s is) = (omega (arith), at_least q.timer (Some s) (s + 0 * 200) is (now_at_least s (s + 0 * 200) (omega (arith))))
since_last p since count last (times_out old new s n l out now before on fits t timed) =
    let had = since_last old s n l before in
    let had_last = had.0 in
    let w = with_outstanding old out now in
    let counted : SinceAtLeast w.timer (s + n * 200) = counted_at_least old.timer out now (s + n * 200) had.1 (omega (arith, had_last, on)) in
    let long = (are_bounded old new out now t).0 in
    let longer : s + n * 200 + 200 ≤ now = lasted w.timer (wait_of w) now (s + n * 200) counted timed long fits in
    let late : s + (n + 1) * 200 ≤ now = omega (arith, longer) in
    (late, at_least new.timer (Some now) (s + (n + 1) * 200) (tends_timer old new out now true t timed) (now_at_least now (s + (n + 1) * 200) late))
since_last p since count last (tends old new s n l out now before on t yet) =
    let had = since_last old s n l before in
    let had_last = had.0 in
    let late : s + n * 200 ≤ now = omega (arith, had_last, on) in
    (late, at_least new.timer (waited_since old.timer out now) (s + n * 200) (tends_timer old new out now false t yet) (counted_at_least old.timer out now (s + n * 200) had.1 late))
since_last p since count last (reads old new s n l out now before on waits) =
    let had = since_last old s n l before in
    let had_last = had.0 in
    let late : s + n * 200 ≤ now = omega (arith, had_last, on) in (
      late,
      ⊎_elim (λ (same : new.timer ≡ waited_since old.timer out now). at_least new.timer (waited_since old.timer out now) (s + n * 200) same (counted_at_least old.timer out now (s + n * 200) had.1 late))
          (λ (anew : (new.timer ≡ Some now) × TakesOut old out now new). at_least new.timer (Some now) (s + n * 200) anew.0 (now_at_least now (s + n * 200) late)) waits,
    )
since_last p since count last (sends old s n l what out now before on) =
    let had = since_last old s n l before in
    let had_last = had.0 in
    let late : s + n * 200 ≤ now = omega (arith, had_last, on) in
    let w = with_outstanding old out now in
    (late, at_least (given_by w what now).timer w.timer (s + n * 200) (given_timer w what now) (counted_at_least old.timer out now (s + n * 200) had.1 late))

pub last : TimeoutsLast
last p since count end waited = (since_last p since count end waited).0
