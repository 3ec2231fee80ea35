-- What is noted of a datagram that requests a connection.
use Rattle.std.proofs.Common.{◌≡◌, ℕ, List, Option, Some, refl}
use Rattle.ipx_wire.specs.declared.address.Address.{Address}
use Rattle.ipx_wire.specs.Ipx.{BeginsWith, PacketView}
use Rattle.spx_messages.specs.Arrives.{Arrives}
use Rattle.spx_messages.specs.EndpointView.{EndpointView}
use Rattle.spx_messages.specs.declared.arrived.Arrived.TheVariants as Arriveds
use Rattle.ipx_host.specs.Noting.{IsPacketFrom}

-- the address that it is from is read
pub sent_from : (old new : EndpointView) (bytes : List ℕ) (now id : ℕ) (found : Option Address)
    → ((p : PacketView) → BeginsWith bytes p → found ≡ Some p.header.from) → Arrives old bytes now (Arriveds.Accepted id) new
    → (from : Address) × IsPacketFrom bytes from × (found ≡ Some from)
sent_from old new bytes now id found reads a =
    let asks = a.answers.asks.comes.is in
    let p = a.answers.packet in
    let begins : BeginsWith bytes p = (asks.tail, asks.packet) in
    (p.header.from, (p, begins, refl), reads p begins)

-- so it is where no link was free for it
pub unlinked_from : (old new : EndpointView) (bytes : List ℕ) (now : ℕ) (found : Option Address)
    → ((p : PacketView) → BeginsWith bytes p → found ≡ Some p.header.from) → Arrives old bytes now Arriveds.NoRoom new
    → (from : Address) × IsPacketFrom bytes from × (found ≡ Some from)
unlinked_from old new bytes now found reads a =
    let asks = a.answers.0.asks.comes.is in
    let p = a.answers.0.packet in
    let begins : BeginsWith bytes p = (asks.tail, asks.packet) in
    (p.header.from, (p, begins, refl), reads p begins)
