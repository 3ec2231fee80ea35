-- What became of a packet that a port driver was given, by the copies that are sent for it.
use Rattle.std.specs.Prelude.{ℕ, List, [], length, Option, Some, None, option_map}
use Rattle.ipx_carrier.specs.declared.port_driver.PacketSent.{PacketSent}
use Rattle.ipx_carrier.specs.declared.port_driver.PacketSent.TheVariants.{Unmapped, Transmitted}
use Rattle.ipx_carrier.specs.Device.{Passes, TrafficOf}
use Rattle.ipx_carrier.specs.Turns.{Given, IsFrontOf, Ways}

-- how many copies were sent, if the packet could be sent
abbrev pub count_in : PacketSent → Option ℕ
count_in Unmapped = None
count_in (Transmitted count) = Some count

-- how many copies are sent for a packet, if its node has an address
abbrev pub copies_count : {A : Type 0} → Ways A → Given → Option ℕ
copies_count transmissions p = option_map length (transmissions p)

-- the first of these copies were sent, before one that could not be
abbrev pub SendsFrontOf : {A : Type 0} → List A → Option (TrafficOf A) → Option (TrafficOf A)
    → Type 0
SendsFrontOf {A} all before after =
    (sent : List A) × IsFrontOf sent all × Passes before after [] sent
