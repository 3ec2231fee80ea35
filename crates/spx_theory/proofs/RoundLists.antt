-- Lists by their indices, and truth values.
use Rattle.std.proofs.Common.{ℕ, zero, suc, ◌+◌, ◌<◌, ◌≤◌, ◌≡◌, ◌≢◌, ◌⊎◌, ◌&&◌, ◌||◌, Bool, true, false, List, [], ◌∷◌, ◌++◌, length, take, drop, set, Some, None, refl, sym, ap, ◌∙◌, inl, inr, arith, slice_get}
use Rattle.std.proofs.lemmas.Grind.{common_steps}
use Rattle.std.proofs.lemmas.List.Sums.{fails_before_first}
use Rattle.std.proofs.lemmas.Option.{get_or_from_slice_get, slice_get_within}
use Rattle.std.specs.List.{position, position_or_len}

-- ---- truth values

pub and_both : (p q : Bool) → p ≡ true → q ≡ true → (p && q) ≡ true
and_both p q e f = ap (λ x. x && q) e ∙ f

pub or_left : (a b : Bool) → a ≡ true → (a || b) ≡ true
or_left a b e = ap (λ x. x || b) e

pub or_right : (a b : Bool) → b ≡ true → (a || b) ≡ true
or_right true b e = refl
or_right false b e = e

pub or_false : (p q : Bool) → p ≡ false → q ≡ false → (p || q) ≡ false
or_false p q e f = ap (λ x. x || q) e ∙ f

pub or_first : (p q : Bool) → (p || q) ≡ false → p ≡ false
or_first true q e = e
or_first false q e = refl

pub or_second : (p q : Bool) → (p || q) ≡ false → q ≡ false
or_second true q e = absurd (cc e)
or_second false q e = e

-- ---- the element at an index

-- after a replacement, the element at an index is the old one or the new one
pub get_set : {A : Type 0} (xs : List A) (j k : ℕ) (x y : A) → slice_get (set xs j x) k ≡ Some y → ((j ≡ k) × (x ≡ y)) ⊎ ((j ≢ k) × (slice_get xs k ≡ Some y))
get_set [] j k x y e = cc
get_set (z ∷ zs) zero zero x y e = inl (refl, cc)
get_set (z ∷ zs) zero (suc k) x y e = inr ((λ h. cc), e)
get_set (z ∷ zs) (suc j) zero x y e = inr ((λ h. cc), e)
get_set (z ∷ zs) (suc j) (suc k) x y e =
    elim (get_set zs j k x y e) [ inl h ↦ inl (ap suc h.0, h.1) | inr h ↦ inr ((λ g. h.0 (omega arith)), h.1) ]

pub get_last : {A : Type 0} (xs : List A) (y z : A) (k : ℕ) → slice_get (xs ++ y ∷ []) k ≡ Some z → (slice_get xs k ≡ Some z) ⊎ ((k ≡ length xs) × (y ≡ z))
get_last [] y z zero e = inr (refl, cc)
get_last [] y z (suc k) e = cc
get_last (x ∷ xs) y z zero e = inl e
get_last (x ∷ xs) y z (suc k) e = elim (get_last xs y z k e) [ inl h ↦ inl h | inr h ↦ inr (ap suc h.0, h.1) ]

pub slice_get-drop : {A : Type 0} (n k : ℕ) (xs : List A) → slice_get (drop n xs) k ≡ slice_get xs (n + k)
slice_get-drop zero k xs = ap (slice_get xs) (omega arith)
slice_get-drop (suc n) k [] = refl
slice_get-drop (suc n) k (x ∷ xs) =
    let e : suc n + k ≡ suc (n + k) = omega arith in
    slice_get-drop n k xs ∙ ap (slice_get (x ∷ xs)) (sym e)

pub slice_get-take : {A : Type 0} (n : ℕ) (xs : List A) (i : ℕ) → i < n → slice_get (take n xs) i ≡ slice_get xs i
slice_get-take zero xs i less = absurd (omega (arith, less))
slice_get-take (suc n) [] i less = refl
slice_get-take (suc n) (x ∷ xs) zero less = refl
slice_get-take (suc n) (x ∷ xs) (suc i) less = slice_get-take n xs i (omega (arith, less))

pub slice_get-behind : {A : Type 0} (xs ys : List A) (j : ℕ) → slice_get (xs ++ ys) (length xs + j) ≡ slice_get ys j
slice_get-behind [] ys j = ap (slice_get ys) (omega arith)
slice_get-behind (x ∷ xs) ys j =
    let e : length (x ∷ xs) + j ≡ suc (length xs + j) = omega arith in
    ap (slice_get (x ∷ (xs ++ ys))) e ∙ slice_get-behind xs ys j

-- if a search finds nothing, the test fails everywhere
pub no_place : {A : Type 0} (p : A → Bool) (xs : List A) (k : ℕ) (x : A) → position p xs ≡ None → slice_get xs k ≡ Some x → p x ≡ false
no_place p xs k x none is =
    let all : length xs ≤ position_or_len p xs = grind (arith, common_steps) in
    let within : k < length xs = slice_get_within xs k x is in
    ap p (sym (get_or_from_slice_get xs k x x is)) ∙ fails_before_first p xs k x (omega (arith, all, within))

-- ---- parts

pub empty_list : {A : Type 0} (xs : List A) → length xs ≡ 0 → xs ≡ []
empty_list [] e = refl
empty_list (x ∷ xs) e = absurd (omega (arith, e))

pub none_left : {A : Type 0} (n : ℕ) (xs : List A) → length xs ≡ 0 → length (drop n xs) ≡ 0
none_left zero xs e = e
none_left (suc n) [] e = refl
none_left (suc n) (x ∷ xs) e = absurd (omega (arith, e))

-- the part before an index, followed by the part from there to another
pub seam : {A : Type 0} (t n m : ℕ) (xs : List A) → t ≤ n → n ≤ m → drop t (take n xs) ++ drop n (take m xs) ≡ drop t (take m xs)
seam zero zero m xs low high = refl
seam zero (suc n) zero xs low high = absurd (omega (arith, high))
seam zero (suc n) (suc m) [] low high = refl
seam zero (suc n) (suc m) (x ∷ xs) low high = ap (λ ys. x ∷ ys) (seam zero n m xs (omega arith) (omega (arith, high)))
seam (suc t) zero m xs low high = absurd (omega (arith, low))
seam (suc t) (suc n) zero xs low high = absurd (omega (arith, high))
seam (suc t) (suc n) (suc m) [] low high = refl
seam (suc t) (suc n) (suc m) (x ∷ xs) low high = seam t n m xs (omega (arith, low)) (omega (arith, high))

pub none_between : {A : Type 0} (t : ℕ) (xs : List A) → drop t (take t xs) ≡ []
none_between zero xs = refl
none_between (suc t) [] = refl
none_between (suc t) (x ∷ xs) = none_between t xs

pub take_all : {A : Type 0} (n : ℕ) (xs : List A) → length xs ≤ n → take n xs ≡ xs
take_all zero [] all = refl
take_all (suc n) [] all = refl
take_all zero (x ∷ xs) all = absurd (omega (arith, all))
take_all (suc n) (x ∷ xs) all = ap (λ ys. x ∷ ys) (take_all n xs (omega (arith, all)))
