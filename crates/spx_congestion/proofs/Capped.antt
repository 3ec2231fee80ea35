-- Within any second a pacer lets go as many units as the credit that it may save is enough for, twice, and the credit
-- that it may gain. The state after each call keeps this.
use Rattle.std.proofs.Common.{◌≡◌, ◌+◌, ◌-◌, ◌*◌, ◌/◌, ◌≤◌, ◌<◌, ◌⊎◌, ℕ, zero, suc, Bool, true, false, List, [], ◌∷◌, ◌++◌, None, arith, max, min, refl, sym, subst, inl, inr, ⊎_elim}
use Rattle.std.proofs.Math.Nat.{mul-le-mul_right}
use Rattle.std.proofs.lemmas.Bool.{leb-true, ltb-true, ltb-false}
use Rattle.std.specs.Prelude.{◌&&◌, if◌then◌else◌, IsTrue, is_some, nat_le, nat_lt}
use Rattle.spx_link.specs.Limits.{most_units}
use Rattle.spx_congestion.specs.Capping.{HasLetGo, LetsGo, UnitsAreCapped, count_within, is_within, unit_at, made, plans, hears, gives}
use Rattle.spx_congestion.specs.Pacing.{GrowsCredit, PacerView, given_by, has_credit, plan_of, rate_of, with_outstanding}
use Rattle.spx_congestion.specs.declared.sent_kind.SentKind.{SentKind}
use Rattle.spx_congestion.specs.declared.sent_kind.SentKind.TheVariants as Gaves

-- ---- a plan that lets a unit go has credit for it

unplanned : (p : PacerView) → has_credit p ≡ false → plan_of p ≡ record { window = min p.out most_units; again = None }
unplanned p none = rw none refl

opens_with : (p : PacerView) (b : Bool) → has_credit p ≡ b → p.out < (plan_of p).window → 256 ≤ p.credit
opens_with p true has open' = let more = ltb-true 255 p.credit has in omega (arith, more)
opens_with p false none open' =
    let closed : p.out < min p.out most_units = subst (λ plan. p.out < plan.window) (unplanned p none) open' in
    absurd (omega (arith, closed))

asks_with : (p : PacerView) (b : Bool) → has_credit p ≡ b → IsTrue (is_some (plan_of p).again) → 256 ≤ p.credit
asks_with p true has again = let more = ltb-true 255 p.credit has in omega (arith, more)
asks_with p false none again =
    let not_asked : false ≡ true = subst (λ plan. is_some plan.again ≡ true) (unplanned p none) again in
    absurd (cc not_asked)

-- ---- what credit may grow to

rate_at_most : (n : ℕ) → min (max n 1) 8192 ≤ 8192
rate_at_most n = omega arith

grown_at_most : (b : Bool) (rate credit gained : ℕ) → rate ≤ 8192 → credit ≤ 32768 → (if b then min (credit + gained) (max (rate * 4) 2560) else credit) ≤ 32768
grown_at_most true rate credit gained slow had = omega (arith, slow, had)
grown_at_most false rate credit gained slow had = had

grown_by_most : (b : Bool) (rate credit gone most : ℕ) → rate ≤ 8192 → (if b then min (credit + rate * gone) most else credit) ≤ credit + 8192 * gone
grown_by_most true rate credit gone most slow = let gained : rate * gone ≤ 8192 * gone = mul-le-mul_right gone slow in omega (arith, gained)
grown_by_most false rate credit gone most slow = omega arith

-- ---- the state after each call

record Keeps (from : ℕ) (p : PacerView) (units : List ℕ) (last : ℕ) : Type 0 where
  saved : p.credit ≤ 32768
  tick : p.tick ≤ last
  none : last < from → count_within from units ≡ 0
  -- no plan was made in this second so far, or one was
  early : last ≤ from + 1000 → p.tick < from → 256 * count_within from units + p.credit ≤ 32768
  late : last ≤ from + 1000 → from ≤ p.tick → 256 * count_within from units + p.credit ≤ 65536 + 8192 * (p.tick - from)
  ever : 256 * count_within from units ≤ 65536 + 8192 * 1000

two_ways : (tick from : ℕ) → (tick < from) ⊎ (from ≤ tick)
two_ways tick from = when (nat_lt tick from) refl
  where
    when : (b : Bool) → nat_lt tick from ≡ b → (tick < from) ⊎ (from ≤ tick)
    when true is = inl (ltb-true tick from is)
    when false is = inr (ltb-false tick from is)

planned : (from : ℕ) (old new : PacerView) (units : List ℕ) (last now : ℕ) → Keeps from old units last → last ≤ now → GrowsCredit old now new → Keeps from new units now
planned from old new units last now k later g =
    let n = count_within from units in
    let trip = new.trip.smoothed in
    let rate = rate_of g.starting new.window trip in
    let slow : rate ≤ 8192 = rate_at_most ((if g.starting then new.window * 2 else new.window * 5 / 4) / max trip 1) in
    let at_most : new.credit ≤ 32768 =
    subst (λ (c : ℕ). c ≤ 32768) (sym g.credit) (grown_at_most (nat_lt old.tick now) rate old.credit (rate * (now - old.tick)) slow k.saved) in
    let by_most : new.credit ≤ old.credit + 8192 * (now - old.tick) =
    subst (λ (c : ℕ). c ≤ old.credit + 8192 * (now - old.tick)) (sym g.credit) (grown_by_most (nat_lt old.tick now) rate old.credit (now - old.tick) (max (rate * 4) 2560) slow) in
    let old_tick : old.tick ≤ last = k.tick in
    let tick : new.tick ≡ now = (let at = g.tick in omega (arith, at, old_tick, later)) in
    record {
      saved = at_most;
      tick = omega (arith, tick);
      none = λ (before : now < from). k.none (omega (arith, before, later));
      early = λ (within : now ≤ from + 1000) (before : new.tick < from).
          let zero_is : n ≡ 0 = k.none (omega (arith, before, tick, later)) in
          omega (arith, zero_is, at_most);
      late = λ (within : now ≤ from + 1000) (after : from ≤ new.tick). ⊎_elim
          (λ (first : old.tick < from). let had = k.early (omega (arith, within, later)) first in omega (arith, had, at_most))
          (λ (next : from ≤ old.tick). let had = k.late (omega (arith, within, later)) next in omega (arith, had, by_most, tick, old_tick, later, next))
          (two_ways old.tick from);
      ever = k.ever;
    }

-- so many units go, for which there was credit
moves : (from : ℕ) (old new : PacerView) (units units' : List ℕ) (last now more : ℕ) → Keeps from old units last → last ≤ now → new.tick ≡ old.tick → new.credit + 256 * more ≤ old.credit
    → count_within from units' ≡ count_within from units + more → (0 < more → (from ≤ now) × (now ≤ from + 1000)) → Keeps from new units' now
moves from old new units units' last now more k later tick credit count when =
    let n = count_within from units in
    let n' = count_within from units' in
    let old_tick : old.tick ≤ last = k.tick in
    let saved : old.credit ≤ 32768 = k.saved in
    let had_early : last ≤ from + 1000 → old.tick < from → 256 * n + old.credit ≤ 32768 = k.early in
    let had_late : last ≤ from + 1000 → from ≤ old.tick → 256 * n + old.credit ≤ 65536 + 8192 * (old.tick - from) = k.late in
    let had_ever : 256 * n ≤ 65536 + 8192 * 1000 = k.ever in
    record {
      saved = omega (arith, credit, saved);
      tick = omega (arith, tick, old_tick, later);
      none = λ (before : now < from).
          let had : n ≡ 0 = k.none (omega (arith, before, later)) in
          ⊎_elim (λ (no : more ≡ 0). omega (arith, had, count, no)) (λ (some : 0 < more). absurd (let w = (when some).0 in omega (arith, before, w))) (none_or more);
      early = λ (within : now ≤ from + 1000) (before : new.tick < from).
          let had = had_early (omega (arith, within, later)) (omega (arith, before, tick)) in omega (arith, had, credit, count);
      late = λ (within : now ≤ from + 1000) (after : from ≤ new.tick).
          let had = had_late (omega (arith, within, later)) (omega (arith, after, tick)) in omega (arith, had, credit, count, tick);
      ever = ⊎_elim (λ (no : more ≡ 0). omega (arith, had_ever, count, no))
          (λ (some : 0 < more).
          let within : now ≤ from + 1000 = (when some).1 in
          ⊎_elim
          (λ (first : old.tick < from). let had = had_early (omega (arith, within, later)) first in omega (arith, had, credit, count))
          (λ (next : from ≤ old.tick). let had = had_late (omega (arith, within, later)) next in omega (arith, had, credit, count, old_tick, later, within))
          (two_ways old.tick from))
          (none_or more);
    }
  where
    none_or : (m : ℕ) → (m ≡ 0) ⊎ (0 < m)
    none_or zero = inl refl
    none_or (suc m) = inr (omega arith)

-- ---- the times of more units

count_more : (from : ℕ) (xs ys : List ℕ) → count_within from (xs ++ ys) ≡ count_within from xs + count_within from ys
count_more from [] ys = omega arith
count_more from (x ∷ xs) ys = let more = count_more from xs ys in omega (arith, more)

one_more : (from now : ℕ) (b : Bool) → is_within from now ≡ b → ((count_within from (now ∷ []) ≡ 1) × (from ≤ now) × (now ≤ from + 1000)) ⊎ (count_within from (now ∷ []) ≡ 0)
one_more from now true is =
    let within = both (nat_le from now) (nat_le now (from + 1000)) refl refl is in inl (rw is refl, within.0, within.1)
  where
    both : (b c : Bool) → nat_le from now ≡ b → nat_le now (from + 1000) ≡ c → (b && c) ≡ true → (from ≤ now) × (now ≤ from + 1000)
    both true true one two e = (leb-true from now one, leb-true now (from + 1000) two)
    both true false one two e = absurd (cc e)
    both false c one two e = absurd (cc e)
one_more from now false is = inr (rw is refl)

-- a unit goes, for which there is credit
one_goes : (from : ℕ) (old new : PacerView) (units : List ℕ) (last now : ℕ) → Keeps from old units last → last ≤ now → 256 ≤ old.credit → new.tick ≡ old.tick → new.credit ≡ old.credit - 256
    → Keeps from new (units ++ now ∷ []) now
one_goes from old new units last now k later has tick credit =
    let total : count_within from (units ++ now ∷ []) ≡ count_within from units + count_within from (now ∷ []) = count_more from units (now ∷ []) in
    ⊎_elim
    (λ (one : (count_within from (now ∷ []) ≡ 1) × (from ≤ now) × (now ≤ from + 1000)).
    let is_one = one.0 in
    moves from old new units (units ++ now ∷ []) last now 1 k later tick (omega (arith, credit, has)) (omega (arith, total, is_one)) (λ some. (one.1, one.2)))
    (λ (no : count_within from (now ∷ []) ≡ 0).
    moves from old new units (units ++ now ∷ []) last now 0 k later tick (omega (arith, credit)) (omega (arith, total, no)) (λ some. absurd (omega (arith, some))))
    (one_more from now (is_within from now) refl)

-- nothing goes that costs credit
none_goes : (from : ℕ) (old new : PacerView) (units : List ℕ) (last now : ℕ) → Keeps from old units last → last ≤ now → new.tick ≡ old.tick → new.credit ≡ old.credit → Keeps from new (units ++ []) now
none_goes from old new units last now k later tick credit =
    let total : count_within from (units ++ []) ≡ count_within from units + count_within from [] = count_more from units [] in
    moves from old new units (units ++ []) last now 0 k later tick (omega (arith, credit)) (omega (arith, total)) (λ some. absurd (omega (arith, some)))

given : (from : ℕ) (old : PacerView) (units : List ℕ) (last : ℕ) (what : SentKind) (out now : ℕ) → Keeps from old units last → last ≤ now → LetsGo old what
    → Keeps from (given_by (with_outstanding old out now) what now) (units ++ unit_at what now) now
given from old units last Gaves.Request out now k later lets = none_goes from old (given_by (with_outstanding old out now) Gaves.Request now) units last now k later refl refl
given from old units last Gaves.Unit out now k later lets =
    one_goes from old (given_by (with_outstanding old out now) Gaves.Unit now) units last now k later (opens_with old (has_credit old) refl lets) refl refl
given from old units last Gaves.End out now k later lets =
    one_goes from old (given_by (with_outstanding old out now) Gaves.End now) units last now k later (opens_with old (has_credit old) refl lets) refl refl
given from old units last Gaves.Again out now k later lets =
    one_goes from old (given_by (with_outstanding old out now) Gaves.Again now) units last now k later (asks_with old (has_credit old) refl lets) refl refl
given from old units last Gaves.Other out now k later lets = none_goes from old (given_by (with_outstanding old out now) Gaves.Other now) units last now k later refl refl

keeps : (from : ℕ) (p : PacerView) (units : List ℕ) (last : ℕ) → HasLetGo p units last → Keeps from p units last
keeps from p units last made =
    record {
      saved = omega arith;
      tick = omega arith;
      none = λ before. refl;
      early = λ within before. omega arith;
      late = λ within after. omega arith;
      ever = omega arith;
    }
keeps from p units last (plans old new us l out now before later t) = planned from old new us l now (keeps from old us l before) later t.grows
keeps from p units last (hears old new us l b a joined now before later heard) =
    let credit = heard.credit.0 in
    moves from old new us us l now 0 (keeps from old us l before) later heard.credit.1 (omega (arith, credit)) (omega arith) (λ some. absurd (omega (arith, some)))
keeps from p units last (gives old us l what out now before later lets) = given from old us l what out now (keeps from old us l before) later lets

pub capped : UnitsAreCapped
capped p units last let_go from =
    let most = (keeps from p units last let_go).ever in
    omega (arith, most)
