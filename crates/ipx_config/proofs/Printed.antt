-- What comes before the first element that passes, and the texts of a list, one after the other.
use Rattle.std.proofs.Common.{◌≡◌, ◌<◌, ◌≤◌, ℕ, ◌+◌, Bool, List, ◌++◌, [], ◌∷◌, length, take, get_or, Some, None, sym, ap, ◌∙◌, refl, inl, inr, lt-ltb}
use Rattle.std.specs.Prelude.{position}
use Rattle.std.specs.List.{before_first, flat_map, position_or_len}
use Rattle.std.proofs.lemmas.Bool.{cases_lt, le-ltb}
use Rattle.std.proofs.lemmas.List.{append-nil, append_assoc, flat_map_more, take_all, take_more}
use Rattle.ipx_config.specs.Checked.{each_after}

position_found : {X : Type 0} (p : X → Bool) (xs : List X) (i : ℕ) → Some i ≡ position p xs → i ≡ position_or_len p xs
position_found p xs i e =
    elim (cases_lt (position_or_len p xs) (length xs)) [
      | inl lt ↦ (let f : Some i ≡ Some (position_or_len p xs) = e ∙ rw (lt-ltb _ _ lt) refl in cc)
      | inr le ↦ (let f : Some i ≡ None = e ∙ rw (le-ltb _ _ le) refl in cc)
    ]

pub position_missing : {X : Type 0} (p : X → Bool) (xs : List X) → None ≡ position p xs → length xs ≤ position_or_len p xs
position_missing p xs e =
    elim (cases_lt (position_or_len p xs) (length xs)) [
      | inl lt ↦ (let f : None ≡ Some (position_or_len p xs) = e ∙ rw (lt-ltb _ _ lt) refl in cc)
      | inr le ↦ le
    ]

pub take_to_first : {X : Type 0} (p : X → Bool) (xs : List X) (i : ℕ) → Some i ≡ position p xs → take i xs ≡ before_first p xs
take_to_first p xs i e = ap (λ (k : ℕ). take k xs) (position_found p xs i e)

pub all_before_first : {X : Type 0} (p : X → Bool) (xs : List X) → None ≡ position p xs → xs ≡ before_first p xs
all_before_first p xs e = sym (take_all (position_or_len p xs) xs (position_missing p xs e))

-- one more text after those of the elements before
pub texts_more : {X : Type 0} (f : X → List ℕ) (xs : List X) (i : ℕ) (d : X) (old part : List ℕ) → i < length xs → old ≡ flat_map f (take i xs) → part ≡ f (get_or xs i d)
    → old ++ part ≡ flat_map f (take (i + 1) xs)
texts_more f xs i d old part lt was is =
    rw (was, is) (flat_map_more f [] (take i xs) (get_or xs i d) ∙ ap (flat_map f) (sym (take_more xs i d lt)))

-- the same if a text depends on the elements before it
each_more : {X : Type 0} (f : List X → X → List ℕ) (earlier xs : List X) (x : X) → each_after f earlier (xs ++ x ∷ []) ≡ each_after f earlier xs ++ f (earlier ++ xs) x
each_more f earlier [] x = append-nil (f earlier x) ∙ ap (λ t. f t x) (sym (append-nil earlier))
each_more f earlier (y ∷ ys) x =
    ap (λ t. f earlier y ++ t) (each_more f (earlier ++ y ∷ []) ys x)
    ∙ rw (append_assoc earlier (y ∷ []) ys) (sym (append_assoc (f earlier y) (each_after f (earlier ++ y ∷ []) ys) (f (earlier ++ y ∷ ys) x)))

pub behind_more : {X : Type 0} (f : List X → X → List ℕ) (xs : List X) (i : ℕ) (d : X) (old part : List ℕ) → i < length xs → old ≡ each_after f [] (take i xs)
    → part ≡ f (take i xs) (get_or xs i d) → old ++ part ≡ each_after f [] (take (i + 1) xs)
behind_more f xs i d old part lt was is =
    rw (was, is) (sym (each_more f [] (take i xs) (get_or xs i d)) ∙ ap (each_after f []) (sym (take_more xs i d lt)))
