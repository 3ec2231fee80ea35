-- A packet that a core gives, in the buffer that it was handed.
use Rattle.std.specs.Prelude.{ℕ, List, take, Option, Some, None}
use Rattle.ipx_wire.specs.declared.address.Node.{Node}
use Rattle.ipx_carrier.specs.Turns.{Given}

-- the packet is at the front of the buffer, as many bytes as the count says
abbrev pub given_in : List ℕ → Option (ℕ × Node × ℕ) → Option Given
given_in room None = None
given_in room (Some g) = Some (record { port = g.0; node = g.1; bytes = take g.2 room })
