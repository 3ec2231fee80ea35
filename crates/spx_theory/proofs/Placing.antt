-- In every scene that can be reached, each entry by which an end makes a parcel names the next one.
use Rattle.std.proofs.Common.{◌≡◌, ◌<◌, List, [], ◌∷◌, length}
use Rattle.spx_theory.specs.Below.{LawsBelow}
use Rattle.spx_theory.specs.Note.{Note, SendsUnit, SendsAgain, SendsSystem}
use Rattle.spx_theory.specs.Scan.{Scan, seen, unread}
use Rattle.spx_theory.specs.Scene.{Scene}
use Rattle.spx_theory.specs.Deeds.{Reached}
use Rattle.spx_theory.specs.Numbered.{IsNumbered}
use Rattle.spx_theory.proofs.Numbering as numbering

abbrev pub Numbered : Scan → Note → Type 0
Numbered s (SendsUnit who parcel) = (parcel ≡ length s.marks) × (who < length s.roles)
Numbered s (SendsAgain who parcel) = (parcel ≡ length s.marks) × (who < length s.roles)
Numbered s (SendsSystem who parcel) = (parcel ≡ length s.marks) × (who < length s.roles)
Numbered s n = Unit {0}

abbrev pub AllNumbered : Scan → List Note → Type 0
AllNumbered s [] = Unit {0}
AllNumbered s (n ∷ ns) = Numbered s n × AllNumbered (seen s n) ns

abbrev pub LogNumbered : List Note → Type 0
LogNumbered log = AllNumbered unread log

one_numbered : (s : Scan) (n : Note) → IsNumbered s n → Numbered s n
one_numbered s (SendsUnit who parcel) is = (is.1, is.0)
one_numbered s (SendsAgain who parcel) is = (is.1, is.0)
one_numbered s (SendsSystem who parcel) is = (is.1, is.0)
one_numbered s n is = tt

all_numbered : (s : Scan) (ns : List Note) → numbering.AllNumbered s ns → AllNumbered s ns
all_numbered s [] all = tt
all_numbered s (n ∷ ns) all = (one_numbered s n all.0, all_numbered (seen s n) ns all.1)

pub log_numbered : (laws : LawsBelow) {s : Scene} → Reached s → LogNumbered s.log
log_numbered laws {s} reached = all_numbered unread s.log (numbering.are_numbered laws reached).all
