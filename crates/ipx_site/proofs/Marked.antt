-- Marks of ports of several kinds, one kind after the other.
use Rattle.std.proofs.Common.{◌≡◌, ◌∙◌, ◌<◌, ◌≤◌, ◌-◌, ◌++◌, ℕ, List, Bool, length, slice_set, ap, refl, sym}
use Rattle.std.proofs.lemmas.List.{set-append_left, set-append_right}

-- the mark of a port of the first kind, of the second, and of the third
pub set_first : (xs ys zs : List Bool) (n : ℕ) (v : Bool) → n < length xs
    → slice_set xs n v ++ (ys ++ zs) ≡ slice_set (xs ++ (ys ++ zs)) n v
set_first xs ys zs n v h = sym (set-append_left xs (ys ++ zs) n v h)

pub set_second : (xs ys zs : List Bool) (n m : ℕ) (v : Bool) → length xs ≤ n → m ≡ n - length xs → m < length ys
    → xs ++ (slice_set ys m v ++ zs) ≡ slice_set (xs ++ (ys ++ zs)) n v
set_second xs ys zs n m v h e k =
    ap (λ l. xs ++ l) (sym (set-append_left ys zs m v k)) ∙ ap (λ i. xs ++ slice_set (ys ++ zs) i v) e
    ∙ sym (set-append_right xs (ys ++ zs) (length xs) n v refl h)

pub set_third : (xs ys zs : List Bool) (n m l : ℕ) (v : Bool) → length xs ≤ n → m ≡ n - length xs → length ys ≤ m → l ≡ m - length ys
    → xs ++ (ys ++ slice_set zs l v) ≡ slice_set (xs ++ (ys ++ zs)) n v
set_third xs ys zs n m l v h e k f =
    ap (λ i. xs ++ (ys ++ slice_set zs i v)) f ∙ ap (λ it. xs ++ it) (sym (set-append_right ys zs (length ys) m v refl k))
    ∙ ap (λ i. xs ++ slice_set (ys ++ zs) i v) e ∙ sym (set-append_right xs (ys ++ zs) (length xs) n v refl h)
