-- The time at which an outstanding unit was given, if it was given once, is kept while at most 8,192 are outstanding.
use Rattle.std.proofs.Common.{◌≡◌, ◌+◌, ◌-◌, ◌%◌, ◌^◌, ◌∙◌, ◌≤◌, ◌<◌, ◌⊎◌, ℕ, zero, suc, Bool, true, false, List, [], ◌∷◌, length, Option, None, Some, ap, arith, max, refl, sym, subst, inl, inr, ⊎_elim}
use Rattle.std.proofs.lemmas.Bool.{and_parts, cases_eq, cases_lt, cases_Bool, eq-eqb, ltb-true, ne_eqb}
use Rattle.std.proofs.lemmas.List.{get_or-set_same, length-replicate, length-set}
use Rattle.std.proofs.lemmas.Option.{slice_get_read}
use Rattle.std.specs.Prelude.{◌&&◌, ◌||◌, if◌then◌else◌, is_some, nat_lt, slice_get, slice_set, unwrap_or}
use Rattle.std.specs.Option.{option_flatten}
use Rattle.spx_link.specs.declared.numbers.Numbers.{Numbers}
use Rattle.spx_congestion.specs.Hearing.{Hears, last_of}
use Rattle.spx_congestion.specs.Pacing.{PacerView, given_by, is_double, newest, place_again, with_outstanding}
use Rattle.spx_congestion.specs.Sampling.{HasGiven, CarriesNew, CarriesNone, SamplesAreSinceGiven, with_given, made, plans, hears, gives_new, gives_again, gives_none}
use Rattle.spx_congestion.specs.SendTimes.{no_times, time_at, with_time}
use Rattle.spx_congestion.specs.declared.sent_kind.SentKind.{SentKind}
use Rattle.spx_congestion.specs.declared.sent_kind.SentKind.TheVariants as Gaves
use Rattle.spx_congestion.proofs.Tended.{tended_base, tended_out, tended_sent}

-- ---- one place of a list

get_set_same : {A : Type 0} (xs : List A) (i : ℕ) (a : A) → i < length xs → slice_get (slice_set xs i a) i ≡ Some a
get_set_same xs i a within = slice_get_read (slice_set xs i a) (length xs) i a (sym (length-set xs i a)) within (sym (get_or-set_same xs i a a within))

get_set_other : {A : Type 0} (xs : List A) (i j : ℕ) (a : A) → (i ≡ j → ⊥) → slice_get (slice_set xs i a) j ≡ slice_get xs j
get_set_other [] i j a other = refl
get_set_other (x ∷ xs) zero zero a other = absurd (other refl)
get_set_other (x ∷ xs) zero (suc j) a other = refl
get_set_other (x ∷ xs) (suc i) zero a other = refl
get_set_other (x ∷ xs) (suc i) (suc j) a other = get_set_other xs i j a (λ e. other (ap suc e))

noted_same : (times : List (Option ℕ)) (i : ℕ) (at : Option ℕ) → length times ≡ 8192 → time_at (with_time times i at) i ≡ at
noted_same times i at places = ap (λ (o : Option (Option ℕ)). option_flatten o) (get_set_same times (i % 8192) at (omega (arith, places)))

noted_other : (times : List (Option ℕ)) (i j : ℕ) (at : Option ℕ) → (i % 8192 ≡ j % 8192 → ⊥) → time_at (with_time times i at) j ≡ time_at times j
noted_other times i j at other = ap (λ (o : Option (Option ℕ)). option_flatten o) (get_set_other times (i % 8192) (j % 8192) at other)

-- ---- the state after each call

record Keeps (p : PacerView) (given : ℕ → Option ℕ) : Type 0 where
  fits : p.base + p.out < 2 ^ 64
  few : p.out ≤ 8192
  places : length p.sent ≡ 8192
  same : (position : ℕ) → p.base ≤ position → position < p.base + p.out → time_at p.sent position ≡ given position

begun : length no_times ≡ 8192
unfolding no_times
begun = let none : Option ℕ = None in length-replicate 8192 none

-- the same times, and no more units outstanding
carried : (p q : PacerView) (given : ℕ → Option ℕ) → Keeps p given → q.sent ≡ p.sent → p.base ≤ q.base → q.base + q.out ≤ p.base + p.out → Keeps q given
carried p q given k sent later fewer =
    let fits = k.fits in
    let few = k.few in
    record {
      fits = omega (arith, fits, fewer);
      few = omega (arith, few, later, fewer);
      places = ap length sent ∙ k.places;
      same = λ position from to. ap (λ (times : List (Option ℕ)). time_at times position) sent ∙ k.same position (omega (arith, later, from)) (omega (arith, fewer, to));
    }

-- a time is noted at the position of an outstanding unit
changed : (p q : PacerView) (given : ℕ → Option ℕ) (i : ℕ) (at : Option ℕ) → Keeps p given → q.sent ≡ with_time p.sent i at → q.base ≡ p.base → p.base ≤ i → i < q.base + q.out
    → q.out ≤ 8192 → q.base + q.out < 2 ^ 64 → ((j : ℕ) → p.base ≤ j → j < q.base + q.out → (j ≡ i → ⊥) → j < p.base + p.out) → Keeps q (with_given given i at)
changed p q given i at k sent base after within few fits rest =
    record {
      fits = fits;
      few = few;
      places = ap length sent ∙ length-set p.sent (i % 8192) at ∙ k.places;
      same = λ j from to. ap (λ (times : List (Option ℕ)). time_at times j) sent ∙ either j from to (cases_eq j i);
    }
  where
    either : (j : ℕ) → q.base ≤ j → j < q.base + q.out → (j ≡ i) ⊎ (j ≡ i → ⊥) → time_at (with_time p.sent i at) j ≡ with_given given i at j
    either j from to (inl is) = rw (eq-eqb j i is) (rw is (noted_same p.sent i at k.places))
    either j from to (inr other) =
        let apart : i % 8192 ≡ j % 8192 → ⊥ = λ same. other (omega (arith, same, from, to, base, after, within, few)) in
        rw (ne_eqb j i other) (noted_other p.sent i j at apart ∙ k.same j (omega (arith, from, base)) (rest j (omega (arith, from, base)) to other))

-- ---- what is heard

heard_sent : (old new : PacerView) (b a : Numbers) (joined : Bool) (now : ℕ) → Hears old b a joined now new → new.sent ≡ old.sent
heard_sent old new b a joined now h = ⊎_elim acked other (cases_lt a.out b.out)
  where
    acked : a.out < b.out → new.sent ≡ old.sent
    acked less =
        elim (h.moves less) [
          | inl plain ↦ ap (λ (p : PacerView). p.sent) plain.1
          | inr repairs ↦ elim repairs.2 [
            | inl goes ↦ ap (λ (p : PacerView). p.sent) goes.1.is
            | inr (inl ends) ↦ ap (λ (p : PacerView). p.sent) ends.1.is
            | inr (inr next) ↦ ap (λ (p : PacerView). p.sent) next.3.is
          ]
        ]

    other : b.out ≤ a.out → new.sent ≡ old.sent
    other none =
        elim (cases_Bool (is_double b a)) [
          | inl double ↦ elim (h.repeated double) [
            | inl one ↦ ap (λ (p : PacerView). p.sent) one.is
            | inr begins ↦ ap (λ (p : PacerView). p.sent) begins.begins.is
          ]
          | inr single ↦ ap (λ (p : PacerView). p.sent) (h.counted none single)
        ]

heard_base : (old new : PacerView) (b a : Numbers) (joined : Bool) (now : ℕ) → b.out ≡ old.out → a.out ≤ b.out → old.base + old.out < 2 ^ 64 → Hears old b a joined now new
    → (old.base ≤ new.base) × (new.base + new.out ≤ old.base + old.out)
heard_base old new b a joined now begins fewer fits h =
    let counts = h.counts in
    ⊎_elim
    (λ (less : a.out < b.out). let base = h.base less in (omega (arith, base, begins, fewer, fits), omega (arith, base, begins, fewer, fits, counts)))
    (λ (none : b.out ≤ a.out). let base = h.unmoved none in (omega (arith, base), omega (arith, base, begins, fewer, counts)))
    (cases_lt a.out b.out)

-- ---- what is given

given_base : (p : PacerView) (what : SentKind) (now : ℕ) → (given_by p what now).base ≡ p.base
given_base p Gaves.Request now = refl
given_base p Gaves.Unit now = refl
given_base p Gaves.End now = refl
given_base p Gaves.Again now = refl
given_base p Gaves.Other now = refl

given_out : (p : PacerView) (what : SentKind) (now : ℕ) → (given_by p what now).out ≡ p.out
given_out p Gaves.Request now = refl
given_out p Gaves.Unit now = refl
given_out p Gaves.End now = refl
given_out p Gaves.Again now = refl
given_out p Gaves.Other now = refl

new_sent : (p : PacerView) (what : SentKind) (now : ℕ) → CarriesNew what → (given_by p what now).sent ≡ with_time p.sent (newest p) (Some now)
new_sent p what now (inl unit) = rw unit refl
new_sent p what now (inr end) = rw end refl

none_sent : (p : PacerView) (what : SentKind) (now : ℕ) → CarriesNone what → (given_by p what now).sent ≡ p.sent
none_sent p what now (inl request) = rw request refl
none_sent p what now (inr other) = rw other refl

-- the place of what is to be sent again is that of an outstanding unit
again_place : (p : PacerView) (place : ℕ) → place_again p ≡ Some place → (place ≡ p.from - p.base) × (place < p.out)
again_place p place is = when (nat_lt p.from p.to && nat_lt p.base p.to && nat_lt (p.from - p.base) p.out) refl is
  where
    some_is : (n m : ℕ) → Some n ≡ Some m → n ≡ m
    some_is n m e = ap (λ (o : Option ℕ). unwrap_or o 0) e

    when : (b : Bool) → (nat_lt p.from p.to && nat_lt p.base p.to && nat_lt (p.from - p.base) p.out) ≡ b → (if b then Some (p.from - p.base) else None) ≡ Some place → (place ≡ p.from - p.base) × (place < p.out)
    when true is_so e =
        let less : p.from - p.base < p.out = ltb-true (p.from - p.base) p.out (and_parts (nat_lt p.from p.to && nat_lt p.base p.to) (nat_lt (p.from - p.base) p.out) is_so).1 in
        let same = some_is (p.from - p.base) place e in
        (sym same, omega (arith, less, same))
    when false not_so e = absurd (cc e)

-- ---- a run

keeps : (p : PacerView) (given : ℕ → Option ℕ) → HasGiven p given → Keeps p given
keeps p given made = record { fits = omega arith; few = omega arith; places = begun; same = λ position from to. absurd (omega (arith, to)) }
keeps p given (plans old new g now before t) =
    let w = with_outstanding old old.out now in
    let base : new.base ≡ old.base = ap (λ (z : PacerView). z.base) t.due ∙ tended_base w now in
    let out : new.out ≡ old.out = ap (λ (z : PacerView). z.out) t.due ∙ tended_out w now in
    carried old new g (keeps old g before) (ap (λ (z : PacerView). z.sent) t.due ∙ tended_sent w now) (omega (arith, base)) (omega (arith, base, out))
keeps p given (hears old new g b a joined now before begins fewer h) =
    let k = keeps old g before in
    let bounds = heard_base old new b a joined now begins fewer k.fits h in
    carried old new g k (heard_sent old new b a joined now h) bounds.0 bounds.1
keeps p given (gives_new old g what now before new few fits) =
    let k = keeps old g before in
    let w = with_outstanding old (old.out + 1) now in
    let q = given_by w what now in
    let base : q.base ≡ old.base = given_base w what now in
    let out : q.out ≡ old.out + 1 = given_out w what now in
    let place : newest w ≡ old.base + old.out = omega (arith, fits) in
    changed old q g (old.base + old.out) (Some now) k (subst (λ n. q.sent ≡ with_time old.sent n (Some now)) place (new_sent w what now new)) base (omega arith) (omega (arith, base, out))
    (omega (arith, out, few)) (omega (arith, base, out, fits)) (λ j from to other. let less : j < old.base + old.out = elim (cases_lt j (old.base + old.out)) [ inl it ↦ it | inr past ↦ absurd (other (omega (arith, past, to, base, out))) ] in less)
keeps p given (gives_again old g place now before again) =
    let k = keeps old g before in
    let w = with_outstanding old old.out now in
    let q = given_by w Gaves.Again now in
    let fits = k.fits in
    let few = k.few in
    let at = again_place old place again in
    let from = at.0 in
    let within = at.1 in
    let same : max old.from old.base ≡ old.base + place = omega (arith, from) in
    changed old q g (old.base + place) None k (ap (λ n. with_time old.sent n None) same) refl (omega arith) (omega (arith, within)) few fits (λ j before' to other. to)
keeps p given (gives_none old g what now before none) =
    let k = keeps old g before in
    let w = with_outstanding old old.out now in
    let q = given_by w what now in
    let base : q.base ≡ old.base = given_base w what now in
    let out : q.out ≡ old.out = given_out w what now in
    carried old q g k (none_sent w what now none) (omega (arith, base)) (omega (arith, base, out))

pub since_given : SamplesAreSinceGiven
since_given p given run units at some few is =
    let k = keeps p given run in
    let fits = k.fits in
    let last : last_of p units ≡ p.base + (units - 1) = omega (arith, fits, some, few) in
    let same : time_at p.sent (last_of p units) ≡ given (p.base + (units - 1)) = ap (λ n. time_at p.sent n) last ∙ k.same (p.base + (units - 1)) (omega arith) (omega (arith, some, few)) in
    sym same ∙ when (nat_lt 0 p.duplicates || is_some p.recover) is
  where
    when : (b : Bool) → (if b then None else time_at p.sent (last_of p units)) ≡ Some at → time_at p.sent (last_of p units) ≡ Some at
    when true e = absurd (cc e)
    when false e = e
