-- The first element of a list that passes a test.
use Rattle.std.proofs.Common.{◌≡◌, ℕ, ◌+◌, ◌<◌, Bool, true, false, not, List, length, get_or, map, Some, None, refl, sym, ap, ◌∙◌, below_more, arith}
use Rattle.std.specs.Prelude.{position}
use Rattle.std.specs.List.{position_or_len}
use Rattle.std.proofs.lemmas.Bool.{le-ltb, lt-ltb}
use Rattle.std.proofs.lemmas.List.{get_or-map, length-map}
use Rattle.std.proofs.lemmas.List.Sums.{prefix_len_is}

-- none passes before the one at n, which does
pub first_at : {A B : Type 0} (p : B → Bool) (f : A → B) (xs : List A) (n : ℕ) (x : A) (d : B) → n < length xs → x ≡ get_or xs n x
    → ((k : ℕ) → k < n → p (get_or (map f xs) k d) ≡ false) → p (f x) ≡ true → Some n ≡ position p (map f xs)
first_at p f xs n x d lt is before here =
    let at : get_or (map f xs) n d ≡ f x = get_or-map f xs n x d lt ∙ ap f (sym is) in
    let long : length (map f xs) ≡ length xs = length-map xs f in
    let first : position_or_len p (map f xs) ≡ n = prefix_len_is (λ y. not (p y)) (map f xs) n d (omega arith) (λ k less. ap not (before k less)) (λ less. ap not (ap p at ∙ here)) in
    rw (first, lt-ltb n (length (map f xs)) (omega arith)) refl

-- none passes at all
pub first_none : {B : Type 0} (p : B → Bool) (ys : List B) (d : B) → ((k : ℕ) → k < length ys → p (get_or ys k d) ≡ false) → None ≡ position p ys
first_none p ys d all =
    let first : position_or_len p ys ≡ length ys = prefix_len_is (λ y. not (p y)) ys (length ys) d (omega arith) (λ k less. ap not (all k less)) (λ less. absurd (omega arith)) in
    rw (first, le-ltb (length ys) (length ys) (omega arith)) refl

-- one more that does not
pub not_yet : {A B : Type 0} (p : B → Bool) (f : A → B) (xs : List A) (n : ℕ) (x : A) (d : B) → n < length xs → x ≡ get_or xs n x
    → ((k : ℕ) → k < n → p (get_or (map f xs) k d) ≡ false) → p (f x) ≡ false → (k : ℕ) → k < n + 1 → p (get_or (map f xs) k d) ≡ false
not_yet p f xs n x d lt is before here =
    below_more (λ k. p (get_or (map f xs) k d) ≡ false) n before (ap p (get_or-map f xs n x d lt ∙ ap f (sym is)) ∙ here)
