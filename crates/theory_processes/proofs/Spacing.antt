-- A host whose new units are among those of a paced core gives few within any second.
use Rattle.std.proofs.Common.{◌≡◌, ◌≤◌, ◌+◌, ◌-◌, ◌==◌, ℕ, Bool, true, false, List, [], ◌∷◌, cond, refl, sym, ◌∙◌, inl, inr, ap, arith}
use Rattle.std.specs.Prelude.{◌&&◌, nat_le}
use Rattle.std.proofs.lemmas.Bool.{and_parts, le-leb, leb-true}
use Rattle.spx_congestion.specs.Capping.{count_within, is_within}
use Rattle.theory_processes.specs.Timely.{NewUnit, units_within}
use Rattle.theory_processes.specs.PacedRuns.{AreAmong, PacedCoresGiveSeldom, PacedHostsAreSpaced, units_of}

-- the units of a host, by their moments alone
same_count : (host from : ℕ) (us : List NewUnit) → units_within host from us ≡ count_within from (units_of host us)
same_count host from [] = refl
same_count host from (u ∷ us) = when (u.host == host) refl (same_count host from us)
  where
    when : (b : Bool) → (u.host == host) ≡ b → units_within host from us ≡ count_within from (units_of host us) → units_within host from (u ∷ us) ≡ count_within from (units_of host (u ∷ us))
    when true is rest =
        ap (λ b. cond (b && is_within from u.at) 1 0 + units_within host from us) is ∙ ap (λ n. cond (is_within from u.at) 1 0 + n) rest
        ∙ sym (ap (λ b. count_within from (cond b (u.at ∷ units_of host us) (units_of host us))) is)
    when false is rest =
        ap (λ b. cond (b && is_within from u.at) 1 0 + units_within host from us) is ∙ (let none : 0 + units_within host from us ≡ units_within host from us = omega arith in none) ∙ rest
        ∙ sym (ap (λ b. count_within from (cond b (u.at ∷ units_of host us) (units_of host us))) is)

-- a moment within a second of one clock is within a second of the other
within_too : (start from at t : ℕ) → at ≡ start + t → is_within from at ≡ true → is_within (from - start) t ≡ true
within_too start from at t same is =
    let both = and_parts (nat_le from at) (nat_le at (from + 1000)) is in
    let after : from ≤ at = leb-true from at both.0 in
    let before : at ≤ from + 1000 = leb-true at (from + 1000) both.1 in
    let one : nat_le (from - start) t ≡ true = le-leb (from - start) t (omega (arith, same, after)) in
    let two : nat_le t (from - start + 1000) ≡ true = le-leb t (from - start + 1000) (omega (arith, same, before)) in
    rw one two

counts_no_more : (x y : Bool) → (x ≡ true → y ≡ true) → (n m : ℕ) → n ≤ m → cond x 1 0 + n ≤ cond y 1 0 + m
counts_no_more true true so n m le = omega (arith, le)
counts_no_more true false so n m le = absurd (let no : false ≡ true = so refl in cc no)
counts_no_more false true so n m le = omega (arith, le)
counts_no_more false false so n m le = omega (arith, le)

among_count : (start from : ℕ) (ats times : List ℕ) → AreAmong start ats times → count_within from ats ≤ count_within (from - start) times
among_count start from [] times among = omega arith
among_count start from (at ∷ ats) [] among = absurd among
among_count start from (at ∷ ats) (t ∷ times) among = elim among [
  | inl here ↦ counts_no_more (is_within from at) (is_within (from - start) t) (within_too start from at t here.0) (count_within from ats) (count_within (from - start) times) (among_count start from ats times here.1)
  | inr later ↦ (let rest = among_count start from (at ∷ ats) times later in omega (arith, rest))
]

pub are_spaced : PacedCoresGiveSeldom → PacedHostsAreSpaced
are_spaced seldom s paced host from = elim (paced host) [
  | inl none ↦ (
      let zero_is : units_within host from s.units ≡ 0 = same_count host from s.units ∙ ap (count_within from) none in
      omega (arith, zero_is))
  | inr by ↦ (
      let same = same_count host from s.units in
      let most = among_count by.start from (units_of host s.units) by.given by.among in
      let few = seldom by.id by.core by.given by.until by.paced (from - by.start) in
      omega (arith, same, most, few))
]
