-- What an indexed log holds: the parcels by their numbers, and the log.
use Rattle.std.specs.Prelude.{List, [], ◌++◌}
use Rattle.spx_theory.specs.Note.{Note}
use Rattle.spx_theory.specs.World.{ParcelView}

pub record IndexedLogView : Type 0 where
  pub parcels : List ParcelView
  pub log : List Note

abbrev pub blank : IndexedLogView
blank = record { parcels = []; log = [] }

-- with these parcels and these entries appended
abbrev pub written_on : IndexedLogView → List ParcelView → List Note → IndexedLogView
written_on b parcels log = record { parcels = b.parcels ++ parcels; log = b.log ++ log }
