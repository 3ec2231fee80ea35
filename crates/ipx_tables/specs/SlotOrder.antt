-- Definitions for private functions: items that stay in slots, and the numbers of those slots in item order.
use Rattle.std.specs.Prelude.{◌≡◌, ℕ, ◌+◌, ◌≤◌, ◌<◌, ◌==◌, Bool, false, List, [], ◌∷◌, ◌++◌, Option, Some, None, length, map, slice_get, slice_index_or}
use Rattle.std.specs.List.{All, IsDistinct}
use Rattle.ipx_tables.specs.Content.{is_young}

-- items in order, and how many there may be without an allocation
pub record SlotOrderView (X : Type 0) : Type 0 where
  pub items : List X
  pub room : ℕ

-- the items in the slots of these numbers
abbrev pub lying_in : {X : Type 0} → List X → List ℕ → List X
lying_in [] numbers = []
lying_in (x ∷ xs) numbers = map (λ n. slice_index_or (x ∷ xs) n x) numbers

-- each slot number is listed once, either as in use or as free, and both lists have space for all slot
-- numbers
pub record AreSlots {X : Type 0} (slots : List X) (used free : List ℕ) (used_space free_space : ℕ)
    : Type 0 where
  pub all : length used + length free ≡ length slots
  pub real : All (λ n. n < length slots) (used ++ free)
  pub once : IsDistinct ◌==◌ (used ++ free)
  pub used_fits : length slots ≤ used_space
  pub free_fits : length slots ≤ free_space

-- an item, if there is one, is valid
abbrev pub is_some_young : {X : Type 0} → (X → ℕ) → ℕ → Option X → Bool
is_some_young moment now None = false
is_some_young moment now (Some x) = is_young now (moment x)

-- the item in the slot of this number is valid
abbrev pub is_young_in : {X : Type 0} → (X → ℕ) → ℕ → List X → ℕ → Bool
is_young_in moment now slots number = is_some_young moment now (slice_get slots number)
