-- What the core of a host notes of a datagram that it reads. Nothing here is from a public standard.
use Rattle.std.specs.Prelude.{◌≡◌, ℕ, Bool, true, false, List, Option, Some, None}
use Rattle.std.specs.Option.{option_map}
use Rattle.ipx_wire.specs.declared.address.Address.{Address}
use Rattle.ipx_wire.specs.Ipx.{BeginsWith, PacketView}
use Rattle.spx_messages.specs.declared.arrived.Arrived.{Arrived}
use Rattle.spx_messages.specs.declared.arrived.Arrived.TheVariants as Arriveds
use Rattle.spx_messages.specs.Arrives.{Arrives}
use Rattle.spx_messages.specs.EndpointView.{EndpointView}
use Rattle.ipx_host.specs.declared.paced_host_core.Arrival.{Arrival}
use Rattle.ipx_host.specs.declared.paced_host_core.Arrival.TheVariants as Cames

-- the bytes begin with a packet from this address
abbrev pub IsPacketFrom : List ℕ → Address → Type 0
IsPacketFrom bytes from = (packet : PacketView) × BeginsWith bytes packet × (packet.header.from ≡ from)

-- a connection was accepted, and the host has not yet taken note of it
abbrev pub is_untold : Option Arrival → Bool
is_untold None = false
is_untold (Some (Cames.Heard id)) = false
is_untold (Some (Cames.Accepted a)) = true
is_untold (Some (Cames.NoRoom asker)) = false

-- what is noted of a datagram for which the endpoint returned this result. `heard` is the link that read it,
-- if one did
abbrev pub Notes : Arrived → Option ℕ → List ℕ → Option Arrival → Type 0
Notes (Arriveds.Bad f) heard bytes came = came ≡ None
Notes Arriveds.NotOurs heard bytes came = came ≡ None
Notes (Arriveds.BadSpx f) heard bytes came = came ≡ None
Notes Arriveds.NoListener heard bytes came = came ≡ None
Notes Arriveds.NoRoom heard bytes came =
    (from : Address) × IsPacketFrom bytes from × (came ≡ Some (Cames.NoRoom from))
Notes Arriveds.Stranger heard bytes came = came ≡ None
Notes (Arriveds.Accepted id) heard bytes came =
    (from : Address) × IsPacketFrom bytes from × (came ≡ Some (Cames.Accepted (record { id = id; from = from })))
Notes (Arriveds.Link id r) heard bytes came = came ≡ option_map Cames.Heard heard

-- an endpoint reads a datagram and returns some result, and this is noted
abbrev pub HearsAndNotes : EndpointView → List ℕ → ℕ → EndpointView → Option Arrival → Type 0
HearsAndNotes old bytes now new came =
    (answer : Arrived) × Arrives old bytes now answer new × Notes answer new.heard bytes came
