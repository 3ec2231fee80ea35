-- Lists with one more element, or a different one.
use Rattle.std.proofs.Common.{◌≡◌, ◌≢◌, ◌⊎◌, ℕ, zero, suc, List, [], ◌∷◌, ◌++◌, length, set, Some, refl, inl, inr, ap, arith}
use Rattle.std.specs.Prelude.{slice_get}

pub get_last : {A : Type 0} (xs : List A) (y z : A) (k : ℕ) → slice_get (xs ++ y ∷ []) k ≡ Some z → (slice_get xs k ≡ Some z) ⊎ ((k ≡ length xs) × (y ≡ z))
get_last [] y z zero e = inr (refl, cc)
get_last [] y z (suc k) e = cc
get_last (x ∷ xs) y z zero e = inl e
get_last (x ∷ xs) y z (suc k) e = elim (get_last xs y z k e) [ inl h ↦ inl h | inr h ↦ inr (ap suc h.0, h.1) ]

pub get_before : {A : Type 0} (xs ys : List A) (z : A) (k : ℕ) → slice_get xs k ≡ Some z → slice_get (xs ++ ys) k ≡ Some z
get_before [] ys z k e = cc
get_before (x ∷ xs) ys z zero e = e
get_before (x ∷ xs) ys z (suc k) e = get_before xs ys z k e

-- the element at an index of a list in which one element was replaced
pub get_set : {A : Type 0} (xs : List A) (j k : ℕ) (x y : A) → slice_get (set xs j x) k ≡ Some y → ((j ≡ k) × (x ≡ y)) ⊎ ((j ≢ k) × (slice_get xs k ≡ Some y))
get_set [] j k x y e = cc
get_set (z ∷ zs) zero zero x y e = inl (refl, cc)
get_set (z ∷ zs) zero (suc k) x y e = inr ((λ h. cc), e)
get_set (z ∷ zs) (suc j) zero x y e = inr ((λ h. cc), e)
get_set (z ∷ zs) (suc j) (suc k) x y e =
    elim (get_set zs j k x y e) [ inl h ↦ inl (ap suc h.0, h.1) | inr h ↦ inr ((λ g. h.0 (omega arith)), h.1) ]
