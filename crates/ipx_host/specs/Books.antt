-- How the ledger of a sending host changes with each message, and with the numbers of its link. Nothing here
-- is from a public standard.
use Rattle.std.specs.Prelude.{◌≡◌, ◌<◌, ◌≤◌, ℕ, ◌+◌, ◌-◌, ◌^◌, List, [], ◌∷◌, ◌++◌, length, Option, Some, None}
use Rattle.spx_link.specs.LinkView.{numbers_of}
use Rattle.spx_link.specs.SequenceMarks.{distance}
use Rattle.spx_link.specs.declared.numbers.Numbers.{Numbers}
use Rattle.spx_messages.specs.EndpointView.{Held}
use Rattle.ipx_carrier.specs.Counting.{counted}
use Rattle.ipx_host.specs.AckedBytes.{CountsAcknowledged, IsFirstOpen, all_units, base_of, units_in}
use Rattle.ipx_host.specs.declared.acked_bytes.Ledger.{Ledger}

-- this many units of messages of these lengths are acknowledged, and the ledger has the same count
abbrev pub LedgerSays : Ledger → List ℕ → ℕ → Type 0
LedgerSays l given units = CountsAcknowledged given units l.messages.items l.units l.whole

-- the first message of the ledger, if there is one, is not fully acknowledged
abbrev pub HasFirstOpen : Ledger → Type 0
HasFirstOpen l = IsFirstOpen l.messages.items l.units

-- nothing was queued, and nothing is acknowledged
pub record IsUnused (l : Ledger) : Type 0 where
  pub base : l.base ≡ 0
  pub ahead : l.ahead ≡ 0
  pub given : l.given ≡ 0
  pub says : LedgerSays l [] 0
  pub first : HasFirstOpen l

-- a message of this length is entered after the earlier ones
pub record Enters (old new : Ledger) (bytes : ℕ) : Type 0 where
  pub base : new.base ≡ old.base
  pub ahead : new.ahead ≡ counted (old.ahead + units_in bytes)
  pub given : new.given ≡ counted (old.given + bytes)
  pub says : (given : List ℕ) (units : ℕ) → LedgerSays old given units → LedgerSays new (given ++ bytes ∷ []) units
  pub first : (given : List ℕ) (units : ℕ) → LedgerSays old given units → units ≤ all_units given
      → HasFirstOpen old → HasFirstOpen new

-- the bytes of one read are entered as one message. A read of no bytes enters nothing
abbrev pub EntersRead : Ledger → Ledger → List ℕ → Type 0
EntersRead old new [] = new ≡ old
EntersRead old new (b ∷ bs) = Enters old new (length (b ∷ bs))

-- the number of units that these numbers of the link newly acknowledge
abbrev pub units_more : Ledger → Numbers → ℕ
units_more l n = distance (base_of n) l.base

-- the units that these numbers acknowledge are entered
pub record Acknowledges (old new : Ledger) (n : Numbers) : Type 0 where
  pub base : new.base ≡ base_of n
  pub ahead : new.ahead ≡ old.ahead - units_more old n
  pub given : new.given ≡ old.given
  pub says : (given : List ℕ) (units : ℕ) → LedgerSays old given units → units + units_more old n < 2 ^ 64
      → LedgerSays new given (units + units_more old n)
  pub first : HasFirstOpen old → HasFirstOpen new

-- the units that the link of an id acknowledges are entered. If there is no such link, nothing is entered
abbrev pub EntersAcknowledged : Option Held → Ledger → Ledger → Type 0
EntersAcknowledged None old new = new ≡ old
EntersAcknowledged (Some h) old new = Acknowledges old new (numbers_of h.link)
