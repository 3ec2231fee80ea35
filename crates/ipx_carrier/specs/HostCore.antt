-- A host as a core: its endpoint receives datagrams, and gives packets when it is polled. The entry points
-- are `HostHears` and `HostGives`, and `HearOutOfMemory` for out of memory.
use Rattle.std.specs.Prelude.{◌≡◌, ◌≤◌, ℕ, List, Option, Some, None, length}
use Rattle.ipx_wire.specs.Assigned.{spx_max_packet_size}
use Rattle.ipx_wire.specs.declared.address.Node.{Node}
use Rattle.spx_messages.specs.declared.arrived.Arrived.{Arrived}
use Rattle.spx_messages.specs.Arrives.{Arrives, IsAcceptable, Unheard}
use Rattle.spx_messages.specs.EndpointView.{EndpointView}
use Rattle.spx_messages.specs.OneValue.{IsBufferStill}
use Rattle.spx_messages.specs.Polls.{Polls}
use Rattle.ipx_carrier.specs.Turns.{Given}
use Rattle.ipx_carrier.specs.GivenPackets.{given_in}

-- the endpoint reads a datagram, whatever its answer
abbrev pub HostHears : EndpointView → List ℕ → ℕ → EndpointView → Type 0
HostHears old bytes now new = (answer : Arrived) × Arrives old bytes now answer new

-- memory runs out only for a connection that would be accepted. Then only which link read the last datagram
-- changes
abbrev pub HearOutOfMemory : EndpointView → List ℕ → EndpointView → Type 0
HearOutOfMemory old bytes new = IsAcceptable old bytes × Unheard old new × (new.said ≡ old.said)

-- a host has one port, numbered 0
abbrev pub at_port : Option (Node × ℕ) → Option (ℕ × Node × ℕ)
at_port None = None
at_port (Some r) = Some (0, r.0, r.1)

-- the core gives what a poll writes into a buffer that is large enough. The buffer keeps its length, so the
-- packet is the one that this endpoint gives at this time
abbrev pub HostGives : EndpointView → ℕ → Option Given → EndpointView → Type 0
HostGives old now given new = (polled : Option (Node × ℕ)) × (room written : List ℕ)
    × Polls old now polled room written new × (given ≡ given_in written (at_port polled))
    × (spx_max_packet_size ≤ length room) × IsBufferStill room written
