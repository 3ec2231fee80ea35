-- A pacer has given up exactly after ten timeouts in a row, since the doublings of its timeout count them.
use Rattle.std.proofs.Common.{◌≡◌, ◌+◌, ◌-◌, ◌^◌, ◌∙◌, ◌≤◌, ℕ, Bool, true, false, Some, ap, arith, min, refl}
use Rattle.std.proofs.lemmas.Bool.{leb-true, le-leb}
use Rattle.std.specs.Prelude.{if◌then◌else◌}
use Rattle.spx_congestion.specs.Pacing.{PacerView, Tends, saturating_sum, given_by, is_over, missing_at, tended, waits_till, with_outstanding}
use Rattle.spx_congestion.specs.Timeouts.{GivesUpAfterTen, HasTimedOut, begins, times_out, plans, hears_new, hears, gives}
use Rattle.spx_congestion.specs.declared.sent_kind.SentKind.{SentKind}
use Rattle.spx_congestion.specs.declared.sent_kind.SentKind.TheVariants as Gaves

abbrev most : ℕ
most = 2 ^ 32 - 1

-- after a timeout one more, and otherwise as many as before
after_tending : (timed missing : Bool) (x y p : PacerView) (n : ℕ) → x.trip.doubled ≡ min (n + 1) most → y.trip.doubled ≡ n → p.trip.doubled ≡ n
    → ((if timed then x else (if missing then y else p)).trip.doubled) ≡ (if timed then min (n + 1) most else n)
after_tending true missing x y p n one same same' = one
after_tending false true x y p n one same same' = same
after_tending false false x y p n one same same' = same'

tended_count : (p : PacerView) (now : ℕ) → (tended p now).trip.doubled ≡ (if is_over (waits_till p) now then min (p.trip.doubled + 1) most else p.trip.doubled)
tended_count p now =
    let x = record p { left = p.out; in_flight = 0; from = p.base; to = saturating_sum p.base 1; trip = record p.trip { doubled = min (p.trip.doubled + 1) (2 ^ 32 - 1) }; timer = Some now; recover = Some (saturating_sum p.base p.out); run = 1; fixed = saturating_sum p.base 1; mends = false; fixed_at = now; tries = 0 } in
    let y = record p { from = p.base; to = saturating_sum p.base 1; tries = min (p.tries + 1) (2 ^ 32 - 1) } in
    after_tending (is_over (waits_till p) now) (is_over (missing_at p) now) x y p p.trip.doubled refl refl refl

tends_count : (old new : PacerView) (out now : ℕ) → Tends old out now new
    → new.trip.doubled ≡ (if is_over (waits_till (with_outstanding old out now)) now then min (old.trip.doubled + 1) most else old.trip.doubled)
tends_count old new out now tends = ap (λ (p : PacerView). p.trip.doubled) tends.due ∙ tended_count (with_outstanding old out now) now

given_count : (p : PacerView) (what : SentKind) (now : ℕ) → (given_by p what now).trip.doubled ≡ p.trip.doubled
given_count p Gaves.Request now = refl
given_count p Gaves.Unit now = refl
given_count p Gaves.End now = refl
given_count p Gaves.Again now = refl
given_count p Gaves.Other now = refl

if_is : (n m : ℕ) (b c : Bool) → b ≡ c → (if b then n else m) ≡ (if c then n else m)
if_is n m b c e = ap (λ z. if z then n else m) e

-- the doublings are the count, up to its maximum
doublings : (p : PacerView) (count : ℕ) → HasTimedOut p count → p.trip.doubled ≡ min count most
doublings p count begins = refl
doublings p count (times_out old new n out now before tends over) =
    let same = doublings old n before in
    let now' = tends_count old new out now tends ∙ if_is (min (old.trip.doubled + 1) most) old.trip.doubled (is_over (waits_till (with_outstanding old out now)) now) true over in
    omega (arith, same, now')
doublings p count (plans old new n out now before tends not_over) =
    tends_count old new out now tends ∙ if_is (min (old.trip.doubled + 1) most) old.trip.doubled (is_over (waits_till (with_outstanding old out now)) now) false not_over ∙ doublings old n before
doublings p count (hears_new old new n b a before less counts) = counts.acknowledged less
doublings p count (hears old new n b a before more counts) = counts.other more ∙ doublings old n before
doublings p count (gives old n what out now before) =
    given_count (with_outstanding old out now) what now ∙ doublings old n before

pub gives_up : GivesUpAfterTen
gives_up p count timed =
    let same : p.trip.doubled ≡ min count most = doublings p count timed in (
      λ yes. let many : 10 ≤ p.trip.doubled = leb-true 10 p.trip.doubled yes in omega (arith, same, many),
      λ ten. le-leb 10 p.trip.doubled (omega (arith, same, ten)),
    )
