-- Lists with more elements at the end.
use Rattle.std.proofs.Common.{◌≡◌, ◌⊎◌, ℕ, zero, suc, List, [], ◌∷◌, ◌++◌, length, Some, refl, inl, inr, ap}
use Rattle.std.specs.Prelude.{slice_get}

pub get_last : {A : Type 0} (xs : List A) (y z : A) (k : ℕ) → slice_get (xs ++ y ∷ []) k ≡ Some z → (slice_get xs k ≡ Some z) ⊎ ((k ≡ length xs) × (y ≡ z))
get_last [] y z zero e = inr (refl, cc)
get_last [] y z (suc k) e = cc
get_last (x ∷ xs) y z zero e = inl e
get_last (x ∷ xs) y z (suc k) e = elim (get_last xs y z k e) [ inl h ↦ inl h | inr h ↦ inr (ap suc h.0, h.1) ]

pub get_before : {A : Type 0} (xs ys : List A) (z : A) (k : ℕ) → slice_get xs k ≡ Some z → slice_get (xs ++ ys) k ≡ Some z
get_before [] ys z k e = cc
get_before (x ∷ xs) ys z zero e = e
get_before (x ∷ xs) ys z (suc k) e = get_before xs ys z k e
