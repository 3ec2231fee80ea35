-- How a message is split into units.
use Rattle.std.specs.Prelude.{ℕ, zero, suc, ◌≡◌, ◌<◌, ◌≤◌, nat_le, Bool, true, false, All, List, [], ◌∷◌, ◌++◌, length, take, drop, if◌then◌else◌}
use Rattle.std.specs.List.{flat_map}
use Rattle.ipx_wire.specs.Assigned.{spx_max_data_size}
use Rattle.spx_link.specs.declared.unit.Unit.{Unit}
use Rattle.spx_messages.specs.Message.{MessageView}

abbrev pub unit_bytes : Unit → List ℕ
unit_bytes u = u.body.items

-- a unit of 534 bytes that ends no message
pub record IsFull (u : Unit) : Type 0 where
  pub bytes : length (unit_bytes u) ≡ spx_max_data_size
  pub last : u.last ≡ false

-- the units of a message: together they are its body, and each has its stream; only the last one ends it, and
-- that is empty only if the body is; all others have 534 bytes
pub record IsCut (m : MessageView) (units : List Unit) : Type 0 where
  pub before : List Unit
  pub final : Unit
  pub are : units ≡ before ++ final ∷ []
  pub streams : All (λ u. u.stream ≡ m.stream) units
  pub whole : flat_map unit_bytes units ≡ m.body
  pub full : All IsFull before
  pub ends : final.last ≡ true
  pub short : length (unit_bytes final) ≤ spx_max_data_size
  pub rest : 0 < length before → 0 < length (unit_bytes final)

abbrev pub unit_with : ℕ → Bool → List ℕ → Unit
unit_with stream last bytes =
    record { stream = stream; last = last; body = record { items = bytes } }

-- the same units, one after another: at most so many full ones, and the last
abbrev pub pieces : ℕ → ℕ → List ℕ → List Unit
pieces zero stream bytes = unit_with stream true bytes ∷ []
pieces (suc more) stream bytes =
    if nat_le (length bytes) spx_max_data_size
    then unit_with stream true bytes ∷ []
    else unit_with stream false (take spx_max_data_size bytes)
    ∷ pieces more stream (drop spx_max_data_size bytes)

abbrev pub cut_of : MessageView → List Unit
cut_of m = pieces (length m.body) m.stream m.body
