-- What a filter keeps of reordered items.
use Rattle.std.proofs.Common.{◌≡◌, ℕ, zero, suc, ◌<◌, Bool, true, false, cond, List, [], ◌∷◌, ◌++◌, length, get_or, set, swap, refl, sym, ap, ◌∙◌, subst, append_assoc, arith}
use Rattle.std.specs.List.{filter}
use Rattle.std.specs.List.Sorted.{IsPermutation}
use Rattle.std.proofs.lemmas.List.Sorted.{IsPermutation-append_comm, IsPermutation-append_left, IsPermutation-append_right, IsPermutation-keeps, IsPermutation-refl, IsPermutation-trans}

-- a relation holds along each permutation if it is reflexive and transitive, holds under a common head, and
-- holds for an exchange of two heads
module _ {X : Type 0} (R : List X → List X → Type 0) (same : (xs : List X) → R xs xs)
    (skip : (x : X) (xs ys : List X) → R xs ys → R (x ∷ xs) (x ∷ ys))
    (turn : (x y : X) (xs : List X) → R (x ∷ y ∷ xs) (y ∷ x ∷ xs))
    (chain : (xs ys zs : List X) → R xs ys → R ys zs → R xs zs) where
  to_head : (l : List X) (j : ℕ) (x d : X) → j < length l → R (x ∷ l) (get_or l j d ∷ set l j x)
  to_head [] j x d h = absurd (omega arith)
  to_head (y ∷ l) zero x d h = turn x y l
  to_head (y ∷ l) (suc j) x d h =
      chain _ _ _ (turn x y l) (chain _ _ _ (skip y _ _ (to_head l j x d (omega arith))) (turn y (get_or l j d) (set l j x)))

  exchanged : (l : List X) (i j : ℕ) (d : X) → i < length l → j < length l → R l (set (set l i (get_or l j d)) j (get_or l i d))
  exchanged [] i j d p q = absurd (omega arith)
  exchanged (x ∷ l) zero zero d p q = same (x ∷ l)
  exchanged (x ∷ l) zero (suc j) d p q = to_head l j x d (omega arith)
  exchanged (x ∷ l) (suc i) zero d p q = to_head l i x d (omega arith)
  exchanged (x ∷ l) (suc i) (suc j) d p q = skip x _ _ (exchanged l i j d (omega arith) (omega arith))

  swapped : (l : List X) (i j : ℕ) → i < length l → j < length l → R l (swap l i j)
  swapped [] i j p q = same []
  swapped (x ∷ l) i j p q = exchanged (x ∷ l) i j x p q

  along : (xs ys : List X) → IsPermutation xs ys → R xs ys
  along xs = IsPermutation-keeps xs (R xs) (same xs) (λ l i j p q h. chain xs l _ h (swapped l i j p q))

module _ {X : Type 0} (p : X → Bool) where
  kept : X → List X
  kept x = cond (p x) (x ∷ []) []

  kept_head : (x : X) (xs : List X) → filter p (x ∷ xs) ≡ kept x ++ filter p xs
  unfolding kept
  kept_head x xs = elim (p x) as (λ b. cond b (x ∷ filter p xs) (filter p xs) ≡ cond b (x ∷ []) [] ++ filter p xs) [
    | true ↦ refl
    | false ↦ refl
  ]

  kept_two : (x y : X) (xs : List X) → filter p (x ∷ y ∷ xs) ≡ (kept x ++ kept y) ++ filter p xs
  kept_two x y xs = kept_head x (y ∷ xs) ∙ ap (λ l. kept x ++ l) (kept_head y xs) ∙ sym (append_assoc (kept x) (kept y) (filter p xs))

  -- a filter keeps the same items in another order
  pub permuted_filter : (xs ys : List X) → IsPermutation xs ys → IsPermutation (filter p xs) (filter p ys)
  permuted_filter = along (λ xs ys. IsPermutation (filter p xs) (filter p ys))
      (λ xs. IsPermutation-refl (filter p xs))
      (λ x xs ys h. subst (λ l. IsPermutation l (filter p (x ∷ ys))) (sym (kept_head x xs)) (subst (IsPermutation (kept x ++ filter p xs)) (sym (kept_head x ys)) (IsPermutation-append_right (kept x) (filter p xs) (filter p ys) h)))
      (λ x y xs. subst (λ l. IsPermutation l (filter p (y ∷ x ∷ xs))) (sym (kept_two x y xs)) (subst (IsPermutation ((kept x ++ kept y) ++ filter p xs)) (sym (kept_two y x xs)) (IsPermutation-append_left (filter p xs) (kept x ++ kept y) (kept y ++ kept x) (IsPermutation-append_comm (kept x) (kept y)))))
      (λ xs ys zs. IsPermutation-trans (filter p xs) (filter p ys) (filter p zs))
