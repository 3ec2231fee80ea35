-- Definitions for private functions: what became of a packet that a core gave.
use Rattle.std.specs.Prelude.{ℕ, ◌+◌, Option, Some, None}
use Rattle.ipx_carrier.specs.declared.report.SendCounts.{SendCounts}
use Rattle.ipx_carrier.specs.declared.port_driver.PacketSent.{PacketSent}
use Rattle.ipx_carrier.specs.PortDrivers.{count_in}

-- how many copies of it were sent, if there was a packet
abbrev pub copies_view : Option PacketSent → Option (Option ℕ)
copies_view None = None
copies_view (Some sent) = Some (count_in sent)

-- the counts with one more packet
abbrev pub with_one_packet : SendCounts → Option ℕ → SendCounts
with_one_packet t None = record { sent = t.sent; unmapped = t.unmapped + 1 }
with_one_packet t (Some n) = record { sent = t.sent + n; unmapped = t.unmapped }
