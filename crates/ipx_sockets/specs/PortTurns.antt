-- What one turn does at the port of a host: its socket, with its access list and its peers. The entry point is
-- `DrivesPort`. Defined by this project.
use Rattle.std.specs.Prelude.{◌≡◌, ℕ, true, List, Option, length, replicate}
use Rattle.ipx_carrier.specs.declared.owned_rfc1234_ports.OwnedRfc1234Ports.{OwnedRfc1234Ports}
use Rattle.ipx_carrier.specs.DriverTurns.{AsksEach, SendsEach}
use Rattle.ipx_carrier.specs.Turns.{Given, Turn, by_ip, copies_of, peers_of}
use Rattle.ipx_sockets.specs.SocketCalls.{ReceivesPacket, ReceivesThroughFilter, SendsDatagram, SendsThroughFilter}
use Rattle.ipx_sockets.specs.declared.sockets.UdpSockets.{UdpSockets}
use Rattle.ipx_sockets.specs.declared.source_filter.SourceFilter.{SourceFilter}

-- the port of a host
abbrev pub HostPort : Type 0
HostPort = OwnedRfc1234Ports (SourceFilter UdpSockets)

-- how asking it may leave it, and sending a packet
abbrev pub ReceivesAtPort : HostPort → ℕ → ℕ → Option (List ℕ) → HostPort → Type 0
ReceivesAtPort old port size answer new = (new.peers ≡ old.peers)
    × ReceivesThroughFilter ReceivesPacket (λ d. d.sender) old.device port size answer new.device

abbrev pub SendsAtPort : HostPort → Given → HostPort → Type 0
SendsAtPort old packet new = (new.peers ≡ old.peers) × SendsEach (SendsThroughFilter SendsDatagram)
    (copies_of (by_ip (peers_of old.peers.items)) packet) old.device new.device

-- it is marked: a datagram may wait there
abbrev pub marked_port : HostPort → HostPort
marked_port p = record p {
  device = record p.device {
    device = record p.device.device { marks = replicate (length p.device.device.marks) true };
  };
}

-- a turn there: the port is marked and asked, and gives the answers of the turn. Then it sends just the packets
-- of the turn. If memory runs out, both are those before that
abbrev pub DrivesPort : HostPort → Turn → HostPort → Type 0
DrivesPort old t new = (asked : HostPort) × AsksEach ReceivesAtPort 1536 t.answers (marked_port old) asked
    × SendsEach SendsAtPort t.packets asked new
