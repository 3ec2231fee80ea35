-- The units of an end are those of its messages, split, one after another, followed by one end of the
-- connection (Novell SPX: end of connection) if that was asked for.
use Rattle.std.specs.Prelude.{ℕ, ◌≡◌, ◌==◌, ◌⊎◌, List, [], ◌∷◌, ◌++◌, if◌then◌else◌}
use Rattle.std.specs.List.{flat_map}
use Rattle.spx_link.specs.declared.unit.Unit.{Unit}
use Rattle.spx_link.specs.Offer.{the_end}
use Rattle.spx_messages.specs.Cut.{cut_of}
use Rattle.spx_theory.specs.Note.{Note, AsksEnd}
use Rattle.spx_theory.specs.Handed.{gathered, handed_in, units_of}
use Rattle.spx_theory.specs.Scene.{Scene}

abbrev pub end_by : ℕ → Note → List Unit
end_by e (AsksEnd who) = if who == e then the_end ∷ [] else []
end_by e n = []

-- the end of the connection, once for each time that it was asked for
abbrev pub ends_asked : ℕ → List Note → List Unit
ends_asked e log = gathered (end_by e) log

-- it was asked for at most once
pub record AreCuts (e : ℕ) (log : List Note) : Type 0 where
  pub units : units_of e log ≡ flat_map cut_of (handed_in e log) ++ ends_asked e log
  pub once : (ends_asked e log ≡ []) ⊎ (ends_asked e log ≡ the_end ∷ [])

abbrev pub UnitsAreCuts : Scene → Type 0
UnitsAreCuts s = (e : ℕ) → AreCuts e s.log
