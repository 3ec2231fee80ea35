-- Lists with one more element, or a different one.
use Rattle.std.proofs.Common.{◌≡◌, ◌≢◌, ◌⊎◌, ◌+◌, ℕ, zero, suc, List, [], ◌∷◌, ◌++◌, length, take, drop, set, Some, refl, inl, inr, ap, arith, sym, ◌∙◌, ◌≤◌}
use Rattle.std.specs.Prelude.{slice_get, slice_index_or}
use Rattle.spx_theory.specs.Scan.{times}

pub get_last : {A : Type 0} (xs : List A) (y z : A) (k : ℕ) → slice_get (xs ++ y ∷ []) k ≡ Some z → (slice_get xs k ≡ Some z) ⊎ ((k ≡ length xs) × (y ≡ z))
get_last [] y z zero e = inr (refl, cc)
get_last [] y z (suc k) e = cc
get_last (x ∷ xs) y z zero e = inl e
get_last (x ∷ xs) y z (suc k) e = elim (get_last xs y z k e) [ inl h ↦ inl h | inr h ↦ inr (ap suc h.0, h.1) ]

pub get_before : {A : Type 0} (xs ys : List A) (z : A) (k : ℕ) → slice_get xs k ≡ Some z → slice_get (xs ++ ys) k ≡ Some z
get_before [] ys z k e = cc
get_before (x ∷ xs) ys z zero e = e
get_before (x ∷ xs) ys z (suc k) e = get_before xs ys z k e

pub get_here : {A : Type 0} (xs : List A) (y : A) → slice_get (xs ++ y ∷ []) (length xs) ≡ Some y
get_here [] y = refl
get_here (x ∷ xs) y = get_here xs y

-- the element at an index of a list in which one element was replaced
pub get_set : {A : Type 0} (xs : List A) (j k : ℕ) (x y : A) → slice_get (set xs j x) k ≡ Some y → ((j ≡ k) × (x ≡ y)) ⊎ ((j ≢ k) × (slice_get xs k ≡ Some y))
get_set [] j k x y e = cc
get_set (z ∷ zs) zero zero x y e = inl (refl, cc)
get_set (z ∷ zs) zero (suc k) x y e = inr ((λ h. cc), e)
get_set (z ∷ zs) (suc j) zero x y e = inr ((λ h. cc), e)
get_set (z ∷ zs) (suc j) (suc k) x y e =
    elim (get_set zs j k x y e) [ inl h ↦ inl (ap suc h.0, h.1) | inr h ↦ inr ((λ g. h.0 (omega arith)), h.1) ]

-- the element at an index is the one that is read
pub read_there : {A : Type 0} (xs : List A) (k : ℕ) (x d : A) → slice_get xs k ≡ Some x → slice_index_or xs k d ≡ x
read_there [] k x d e = cc
read_there (y ∷ ys) zero x d e = cc
read_there (y ∷ ys) (suc k) x d e = read_there ys k x d e

pub times-append : (e : ℕ) (xs ys : List ℕ) → times e (xs ++ ys) ≡ times e xs + times e ys
times-append e [] ys = omega arith
times-append e (x ∷ xs) ys = omega (arith, times-append e xs ys)

pub times-parts : (e n : ℕ) (xs : List ℕ) → times e (take n xs) + times e (drop n xs) ≡ times e xs
times-parts e zero xs = omega arith
times-parts e (suc n) [] = omega arith
times-parts e (suc n) (x ∷ xs) = omega (arith, times-parts e n xs)

pub same_element : {A : Type 0} (xs : List A) (k : ℕ) (x y : A) → slice_get xs k ≡ Some x → slice_get xs k ≡ Some y → x ≡ y
same_element xs k x y one two = let both : Some x ≡ Some y = sym one ∙ two in cc both

-- the part before an index, followed by the part from there to another, is the part before the other
pub take_parts : {A : Type 0} (n m : ℕ) (xs : List A) → n ≤ m → take n xs ++ drop n (take m xs) ≡ take m xs
take_parts zero m xs le = refl
take_parts (suc n) zero xs le = absurd (omega (arith, le))
take_parts (suc n) (suc m) [] le = refl
take_parts (suc n) (suc m) (x ∷ xs) le = ap (λ ys. x ∷ ys) (take_parts n m xs (omega (arith, le)))
