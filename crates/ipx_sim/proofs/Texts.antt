-- Texts of a list, one after another.
use Rattle.std.proofs.Common.{◌≡◌, ◌<◌, ℕ, ◌+◌, List, ◌++◌, [], length, take, get_or, sym, ap, ◌∙◌}
use Rattle.std.specs.List.{flat_map}
use Rattle.std.proofs.lemmas.List.{flat_map_more, take_more}

-- one more text after those of the elements before
pub texts_more : {X : Type 0} (f : X → List ℕ) (xs : List X) (i : ℕ) (d : X) (old part : List ℕ) → i < length xs → old ≡ flat_map f (take i xs) → part ≡ f (get_or xs i d)
    → old ++ part ≡ flat_map f (take (i + 1) xs)
texts_more f xs i d old part lt was is =
    rw (was, is) (flat_map_more f [] (take i xs) (get_or xs i d) ∙ ap (flat_map f) (sym (take_more xs i d lt)))
