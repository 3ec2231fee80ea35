-- The number of bytes that were queued and acknowledged. Nothing here is from a public standard.
use Rattle.std.specs.Prelude.{◌≡◌, ◌<◌, ℕ, ◌+◌, ◌-◌, ◌*◌, List, [], ◌∷◌, ◌++◌, max, min, sum}
use Rattle.std.specs.Int.{div_ceil}
use Rattle.std.specs.List.{sum_by}
use Rattle.ipx_wire.specs.Assigned.{spx_max_data_size}
use Rattle.spx_link.specs.SequenceMarks.{distance}
use Rattle.spx_link.specs.declared.numbers.Numbers.{Numbers}
use Rattle.ipx_carrier.specs.Counting.{counted}

-- the number of units that a message of this length is cut into: one if it is empty
abbrev pub units_in : ℕ → ℕ
units_in bytes = max 1 (div_ceil bytes spx_max_data_size)

-- the sequence number before which everything is acknowledged
abbrev pub base_of : Numbers → ℕ
base_of n = distance n.next n.out

-- the number of acknowledged bytes, if this many units of messages of these lengths are acknowledged. Each
-- unit counts as 534 bytes, but no message counts more than its length
abbrev pub bytes_acknowledged : List ℕ → ℕ → ℕ
bytes_acknowledged [] units = 0
bytes_acknowledged (bytes ∷ more) units =
    min bytes (spx_max_data_size * units) + bytes_acknowledged more (units - units_in bytes)

-- the number of units in messages of these lengths
abbrev pub all_units : List ℕ → ℕ
all_units messages = sum_by units_in messages

-- the first message, if there is one, is not fully acknowledged
abbrev pub IsFirstOpen : List ℕ → ℕ → Type 0
IsFirstOpen [] units = Unit {0}
IsFirstOpen (bytes ∷ more) units = units < units_in bytes

-- this many units of messages of these lengths are acknowledged: all units of the first messages, which are
-- removed and have this many bytes together, and this many units of the remaining ones
pub record CountsAcknowledged (given : List ℕ) (units : ℕ) (left : List ℕ) (begun whole : ℕ) : Type 0 where
  pub gone : List ℕ
  pub in_order : given ≡ gone ++ left
  pub acknowledged : units ≡ all_units gone + begun
  pub bytes : whole ≡ counted (sum gone)
