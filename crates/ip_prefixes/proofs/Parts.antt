-- the parts of a text around its first slash
use Rattle.std.proofs.Common.{◌≡◌, ℕ, ◌+◌, ◌-◌, Bool, List, length, take, drop, Some, None, arith, inl, inr, lt-ltb, refl, sym, ap, ◌∙◌}
use Rattle.std.specs.Prelude.{position}
use Rattle.std.specs.List.{after_first, before_first, position_or_len}
use Rattle.std.proofs.lemmas.Bool.{cases_lt, le-ltb}
use Rattle.std.proofs.lemmas.List.{length-drop, take_all}

position_found : {X : Type 0} (p : X → Bool) (xs : List X) (i : ℕ) → Some i ≡ position p xs → i ≡ position_or_len p xs
position_found p xs i e =
    elim (cases_lt (position_or_len p xs) (length xs)) [
      | inl lt ↦ (let f : Some i ≡ Some (position_or_len p xs) = e ∙ rw (lt-ltb _ _ lt) refl in cc)
      | inr le ↦ (let f : Some i ≡ None = e ∙ rw (le-ltb _ _ le) refl in cc)
    ]

pub before_place : {X : Type 0} (p : X → Bool) (xs : List X) (i : ℕ) → Some i ≡ position p xs → before_first p xs ≡ take i xs
before_place p xs i e = ap (λ (k : ℕ). take k xs) (sym (position_found p xs i e))

pub after_place : {X : Type 0} (p : X → Bool) (xs : List X) (i : ℕ) → Some i ≡ position p xs → after_first p xs ≡ drop (i + 1) xs
after_place p xs i e = ap (λ (k : ℕ). drop (k + 1) xs) (sym (position_found p xs i e))

-- a whole slice is what is left
pub whole_rest : (xs : List ℕ) (i : ℕ) → take (length xs - i) (drop i xs) ≡ drop i xs
whole_rest xs i = take_all (length xs - i) (drop i xs) (let l = length-drop i xs in omega (arith, l))
