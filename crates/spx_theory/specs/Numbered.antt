-- Ends and parcels are numbered in the order of the entries that make them, and each entry of the log names
-- those that exist.
use Rattle.std.specs.Prelude.{◌≡◌, ◌<◌, List, ◌∷◌, ◌++◌, length}
use Rattle.spx_theory.specs.Note.{Note, Opened, Accepted, Joined, HandsIn, HandsOut, TakesUnit, AsksEnd, Got, Released, SendsUnit, SendsAgain, SendsSystem, Told, Carried, Injected}
use Rattle.spx_theory.specs.Scan.{Scan, scan}
use Rattle.spx_theory.specs.Scene.{Scene}

-- an entry is numbered right, after the entries of this index
abbrev pub IsNumbered : Scan → Note → Type 0
IsNumbered s (Opened who host buffers) = who ≡ length s.roles
IsNumbered s (Accepted who parcel buffers) = (who ≡ length s.roles) × (parcel < length s.marks)
IsNumbered s (Joined who parcel) = (who < length s.roles) × (parcel < length s.marks)
IsNumbered s (HandsIn who m) = who < length s.roles
IsNumbered s (HandsOut who m) = who < length s.roles
IsNumbered s (TakesUnit who u) = who < length s.roles
IsNumbered s (AsksEnd who) = who < length s.roles
IsNumbered s (Got who parcel) = (who < length s.roles) × (parcel < length s.marks)
IsNumbered s (Released who) = who < length s.roles
IsNumbered s (SendsUnit who parcel) = (who < length s.roles) × (parcel ≡ length s.marks)
IsNumbered s (SendsAgain who parcel) = (who < length s.roles) × (parcel ≡ length s.marks)
IsNumbered s (SendsSystem who parcel) = (who < length s.roles) × (parcel ≡ length s.marks)
IsNumbered s (Told router parcel) = parcel ≡ length s.marks
IsNumbered s (Carried from parcel) = (from < length s.marks) × (parcel ≡ length s.marks)
IsNumbered s (Injected parcel) = parcel ≡ length s.marks

-- as many ends as roles, as many parcels as marks, and every entry is numbered
pub record NumbersAreInOrder (s : Scene) : Type 0 where
  pub ends : length (scan s.log).roles ≡ length s.ends
  pub parcels : length (scan s.log).marks ≡ length s.parcels
  pub entries : (before after : List Note) (n : Note)
      → s.log ≡ before ++ n ∷ after → IsNumbered (scan before) n
