-- For private functions: the receive buffers of an end, one ring of units that were received and not taken.
use Rattle.std.specs.Prelude.{◌≡◌, ℕ, ◌-◌, ◌≤◌, List, [], ◌∷◌, ◌++◌, map, length, take, drop}
use Rattle.std.specs.Prelude.{Option, None, Some, if◌then◌else◌}
use Rattle.spx_link.specs.declared.unit.Unit.{Unit}
use Rattle.spx_link.specs.Receive.{leading, any_end}

-- the units held in order, those kept ahead of them with None at a gap, and the number of buffers for both
pub record BuffersView : Type 0 where
  pub held : List Unit
  pub ahead : List (Option Unit)
  pub size : ℕ

-- the units at the places that have one
abbrev pub there : List (Option Unit) → List Unit
there [] = []
there (None ∷ xs) = there xs
there (Some u ∷ xs) = u ∷ there xs

-- the first places of a ring are the units in order, without a gap
pub record IsLaid (items : List (Option Unit)) (capacity count size : ℕ) : Type 0 where
  pub sized : capacity ≡ size
  pub fits : length items ≤ size
  pub within : count ≤ length items
  pub first : take count items ≡ map Some (there (take count items))

-- the unit at a place, if the place exists and has one
abbrev pub unit_there : Option (Option Unit) → Option Unit
unit_there None = None
unit_there (Some x) = x

-- how many more units may be held
abbrev pub left : BuffersView → ℕ
left b = b.size - length b.held

-- after holding these units, the first of those ahead. After an end nothing is kept
abbrev pub with_units_held : BuffersView → List Unit → BuffersView
with_units_held b us =
    record {
      held = b.held ++ us;
      ahead = if any_end us then [] else drop (length us) b.ahead;
      size = b.size;
    }

-- after holding the units that are in order
abbrev pub held_in_order : BuffersView → BuffersView
held_in_order b = with_units_held b (leading b.ahead)
