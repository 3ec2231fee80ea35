-- The indices of the units of each end among all units sent.
use Rattle.std.specs.Prelude.{ℕ, ◌≡◌, ◌+◌, ◌==◌, Bool, true, List, [], ◌∷◌, slice_index_or, if◌then◌else◌}

-- the indices of a number in a list whose first index is `at`
abbrev pub places_from : ℕ → ℕ → List ℕ → List ℕ
places_from at e [] = []
places_from at e (n ∷ ns) =
    if n == e then at ∷ places_from (at + 1) e ns else places_from (at + 1) e ns

-- a list for each end, by its number; complete while no unit is missing
pub record PlacesView : Type 0 where
  pub lists : List (List ℕ)
  pub whole : Bool

-- the list of an end; empty if it has none
abbrev pub list_of : PlacesView → ℕ → List ℕ
list_of p e = slice_index_or p.lists e []

-- complete lists are those of the indices of each end
abbrev pub AreListed : PlacesView → List ℕ → Type 0
AreListed p sent = p.whole ≡ true → (e : ℕ) → list_of p e ≡ places_from 0 e sent
