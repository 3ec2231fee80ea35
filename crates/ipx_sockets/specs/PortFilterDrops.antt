-- What access lists drop, by port. Defined by this project.
use Rattle.std.specs.Prelude.{◌≡◌, ◌⊎◌, ◌<◌, ◌+◌, ◌^◌, ℕ, List, length, slice_index_or, slice_set}
use Rattle.std.specs.List.{sum_by}
use Rattle.ipx_carrier.specs.Counting.{raised}
use Rattle.ipx_sockets.specs.declared.port_filter_drops.PortFilterDrops.{PortFilterDrops}

-- the access list of a port has dropped nothing
abbrev pub nothing_at_port : PortFilterDrops
nothing_at_port = record { unknown_senders = 0; refused = 0 }

-- one more datagram came from an unknown sender
abbrev pub one_unknown_sender : PortFilterDrops → PortFilterDrops
one_unknown_sender k = record k { unknown_senders = raised k.unknown_senders }

-- one more datagram was for an address that the port does not send to
abbrev pub one_refused : PortFilterDrops → PortFilterDrops
one_refused k = record k { refused = raised k.refused }

-- the counts of this port change by `change`, and those of no other port
abbrev pub drops_changed_at : List PortFilterDrops → ℕ → (PortFilterDrops → PortFilterDrops) → List PortFilterDrops
drops_changed_at ports port change = slice_set ports port (change (slice_index_or ports port nothing_at_port))

-- unknown senders of a device are counted at the ports too: no more of them came, or one came by this port
abbrev pub CountsUnknownSenderAt : ℕ → ℕ → ℕ → List PortFilterDrops → List PortFilterDrops → Type 0
CountsUnknownSenderAt port before after old new = ((after ≡ before) × (new ≡ old))
    ⊎ ((after ≡ raised before) × (new ≡ drops_changed_at old port one_unknown_sender))

-- the totals of all ports
abbrev pub unknown_senders_over : List PortFilterDrops → ℕ
unknown_senders_over ports = sum_by (λ k. k.unknown_senders) ports

abbrev pub refused_over : List PortFilterDrops → ℕ
refused_over ports = sum_by (λ k. k.refused) ports

-- if the total equals the device's count, it still does after a datagram came, as long as a 64-bit count does
-- not overflow
abbrev pub UnknownSendersAddUp : Type 0
UnknownSendersAddUp = (port before after : ℕ) (old new : List PortFilterDrops) → port < length old → before + 1 < 2 ^ 64
    → before ≡ unknown_senders_over old → CountsUnknownSenderAt port before after old new → after ≡ unknown_senders_over new

-- the same after a datagram was not sent
abbrev pub RefusedAddUp : Type 0
RefusedAddUp = (port before : ℕ) (ports : List PortFilterDrops) → port < length ports → before + 1 < 2 ^ 64
    → before ≡ refused_over ports → raised before ≡ refused_over (drops_changed_at ports port one_refused)
