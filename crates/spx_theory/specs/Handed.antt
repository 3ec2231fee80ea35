-- The messages that ends hand in and out, and the units of an end: those of its messages, split, and the end
-- of the connection if that was asked for.
use Rattle.std.specs.Prelude.{ℕ, ◌≡◌, ◌==◌, List, [], ◌∷◌, ◌++◌, if◌then◌else◌}
use Rattle.spx_link.specs.declared.unit.Unit.{Unit}
use Rattle.spx_link.specs.Offer.{the_end}
use Rattle.spx_messages.specs.Message.{MessageView}
use Rattle.spx_messages.specs.Cut.{cut_of}
use Rattle.spx_theory.specs.Note.{Note, HandsIn, HandsOut, TakesUnit, AsksEnd}

-- what an entry adds to the messages handed in at an end, to those handed out, to its units, and to the units
-- that it took
abbrev pub in_by : ℕ → Note → List MessageView
in_by e (HandsIn who m) = if who == e then m ∷ [] else []
in_by e n = []

abbrev pub out_by : ℕ → Note → List MessageView
out_by e (HandsOut who m) = if who == e then m ∷ [] else []
out_by e n = []

abbrev pub units_by : ℕ → Note → List Unit
units_by e (HandsIn who m) = if who == e then cut_of m else []
units_by e (AsksEnd who) = if who == e then the_end ∷ [] else []
units_by e n = []

abbrev pub taken_by : ℕ → Note → List Unit
taken_by e (TakesUnit who u) = if who == e then u ∷ [] else []
taken_by e n = []

-- what entries add, in order
module _ {A : Type 0} (f : Note → List A) where
  abbrev pub gathered : List Note → List A
  gathered [] = []
  gathered (n ∷ ns) = f n ++ gathered ns

abbrev pub handed_in : ℕ → List Note → List MessageView
handed_in e log = gathered (in_by e) log

abbrev pub handed_out : ℕ → List Note → List MessageView
handed_out e log = gathered (out_by e) log

abbrev pub units_of : ℕ → List Note → List Unit
units_of e log = gathered (units_by e) log

abbrev pub taken_of : ℕ → List Note → List Unit
taken_of e log = gathered (taken_by e) log

-- the first list is a prefix of the second
abbrev pub IsBeginning : {A : Type 0} → List A → List A → Type 0
IsBeginning {A} xs ys = (rest : List A) × (xs ++ rest ≡ ys)
