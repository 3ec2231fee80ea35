-- A loop over a list that stops at the first element without a property.
use Rattle.std.proofs.Common.{◌≡◌, ◌<◌, ◌+◌, ℕ, List, length, get_or, refl, sym, subst, arith, inl, inr, Bool, true, false}
use Rattle.std.specs.Prelude.{All, IsTrue}
use Rattle.std.proofs.lemmas.Bool.{cases_lt}
use Rattle.std.proofs.lemmas.List.{get_or_default}

-- an element without it
pub none_fails : (A : Type 0) (P : A → Type 0) (xs ys : List A) (k : ℕ) (d : A) (b : Bool) → ys ≡ xs → k < length ys → (P (get_or ys k d) → IsTrue b) → b ≡ false → All P xs → IsTrue false
none_fails A P xs ys k d b same within test fails all =
    let there : P (get_or ys k d) = subst (λ (zs : List A). P (get_or zs k d)) (sym same) (all k d (subst (λ (zs : List A). k < length zs) same within)) in
    subst IsTrue fails (test there)

-- one more element with it
pub one_passes : (A : Type 0) (P : A → Type 0) (xs ys : List A) (i : ℕ) (d : A) (b : Bool) → ys ≡ xs → i < length ys → (IsTrue b → P (get_or ys i d)) → b ≡ true → ((k : ℕ) (e : A) → k < i → P (get_or xs k e))
    → (k : ℕ) (e : A) → k < i + 1 → P (get_or xs k e)
one_passes A P xs ys i d b same within test passes before k e h =
    elim (cases_lt k i) [
      | inl lt ↦ before k e lt
      | inr ge ↦
          let at : i ≡ k = omega arith in
          let here : P (get_or ys i d) = test (subst IsTrue (sym passes) refl) in
          let moved : P (get_or xs i d) = subst (λ (zs : List A). P (get_or zs i d)) same here in
          let inside : i < length xs = subst (λ (zs : List A). i < length zs) same within in
          let there : P (get_or xs i e) = subst P (get_or_default xs i d e inside) moved in
          subst (λ (n : ℕ). P (get_or xs n e)) at there
    ]
