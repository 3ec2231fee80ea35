-- What a router forwards, defined without its tables: the packet that came in, with one hop more.
use Rattle.std.specs.Prelude.{◌<◌, ℕ, List}
use Rattle.ipx_wire.specs.Ipx.{BeginsWith, PacketView}
use Rattle.ipx_router.specs.declared.port.Port.{Port}
use Rattle.ipx_router.specs.RouterView.{RouterView}
use Rattle.ipx_router.specs.Ports.{IsPort}
use Rattle.ipx_router.specs.Forward.{IsForwarded}
use Rattle.ipx_router.specs.OutcomeView.{OutcomeView, Forward, Replies, Heard, Dropped}

-- what is forwarded is this packet with one hop more, and fewer than 15 routers had forwarded it
abbrev pub IsForwardOf : Port → PacketView → OutcomeView → Type 0
IsForwardOf arrived d (Forward port next bytes) = (d.header.hops < 15) × IsForwarded arrived d bytes
IsForwardOf arrived d (Replies sent) = Unit {0}
IsForwardOf arrived d (Heard n) = Unit {0}
IsForwardOf arrived d (Dropped reason) = Unit {0}

-- if something is forwarded, the bytes that came in begin with a packet
abbrev pub ForwardsPacket : List ℕ → OutcomeView → Type 0
ForwardsPacket bytes (Forward port next out) = (d : PacketView) × BeginsWith bytes d
ForwardsPacket bytes (Replies sent) = Unit {0}
ForwardsPacket bytes (Heard n) = Unit {0}
ForwardsPacket bytes (Dropped reason) = Unit {0}

-- for any packet that the bytes begin with, that packet is what is forwarded, with one hop more
abbrev pub ForwardsEachReading : Port → List ℕ → OutcomeView → Type 0
ForwardsEachReading arrived bytes a =
    (d : PacketView) → BeginsWith bytes d → IsForwardOf arrived d a

-- what is forwarded of bytes that came in on the port of this number is the packet that they begin with, with
-- one hop more
abbrev pub ForwardsOneHopOn : RouterView → ℕ → List ℕ → OutcomeView → Type 0
ForwardsOneHopOn r port bytes a = (arrived : Port) × IsPort r.ports port arrived
    × ForwardsPacket bytes a × ForwardsEachReading arrived bytes a
