-- For private functions: units and their stamps as one list.
use Rattle.std.specs.Prelude.{List, [], ◌∷◌}
use Rattle.spx_link.specs.declared.unit.Unit.{Unit}
use Rattle.spx_link.specs.declared.stamped.Stamp.{Stamp}
use Rattle.spx_link.specs.declared.queue.Queued.{Queued}

-- a unit with its stamp
abbrev pub with_stamp : Unit → Stamp → Queued
with_stamp u s = record { unit = u; at = s.at; count = s.count }

-- each unit with the stamp at its place
abbrev pub paired : List Unit → List Stamp → List Queued
paired [] ss = []
paired (u ∷ us) [] = []
paired (u ∷ us) (s ∷ ss) = with_stamp u s ∷ paired us ss

-- the stamp of a unit that was not sent yet
abbrev pub unsent : Stamp
unsent = record { at = 0; count = 0 }
