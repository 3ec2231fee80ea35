-- How one call leaves the ports of a host or a router of a script: to ask a port, or to send a packet. The entry
-- points are `PortGives` and `PortSends`, and `PortFails` and `PortRefuses` for a call that fails. Defined by this project.
use Rattle.std.specs.Prelude.{◌≡◌, ◌+◌, ℕ, List, Option}
use Rattle.ipx_carrier.specs.declared.owned_rfc1234_ports.OwnedRfc1234Ports.{OwnedRfc1234Ports}
use Rattle.ipx_carrier.specs.declared.udp.UdpDatagrams.{UdpDatagrams}
use Rattle.ipx_carrier.specs.Device.{Datagram}
use Rattle.ipx_carrier.specs.DriverTurns.{SendsEach, SendsSomeOf}
use Rattle.ipx_carrier.specs.Traces.{FailsOnce, GivesOnce, RefusesTo, SendsTo, v4_at}
use Rattle.ipx_carrier.specs.Turns.{Given, by_ip, copies_of, peers_of}

-- ---- the sockets: each call is one event of one of them, and the UDP port that they send to stays

-- the socket of a port was asked, into a buffer of this size, and gave this
abbrev pub SocketGives : UdpDatagrams → ℕ → ℕ → Option (List ℕ) → UdpDatagrams → Type 0
SocketGives old port size answer new = (new.port ≡ old.port) × (new.failures ≡ old.failures)
    × GivesOnce port size answer old.sockets.items new.sockets.items

-- it was asked, and failed, which is counted
abbrev pub SocketFails : UdpDatagrams → ℕ → ℕ → UdpDatagrams → Type 0
SocketFails old port size new = (new.port ≡ old.port) × (new.failures ≡ old.failures + 1)
    × FailsOnce port size old.sockets.items new.sockets.items

-- it sent a datagram
abbrev pub SocketSends : UdpDatagrams → Datagram → UdpDatagrams → Type 0
SocketSends old d new = (new.port ≡ old.port) × (new.failures ≡ old.failures)
    × SendsTo d.port (v4_at d.to old.port) d.bytes old.sockets.items new.sockets.items

-- the system refused to send it, which is counted
abbrev pub SocketRefuses : UdpDatagrams → Datagram → UdpDatagrams → Type 0
SocketRefuses old d new = (new.port ≡ old.port) × (new.failures ≡ old.failures + 1)
    × RefusesTo d.port (v4_at d.to old.port) d.bytes old.sockets.items new.sockets.items

-- ---- the ports: the sockets, and the peers of each, which stay

abbrev pub UdpPorts : Type 0
UdpPorts = OwnedRfc1234Ports UdpDatagrams

-- a port was asked, and gave this
abbrev pub PortGives : UdpPorts → ℕ → ℕ → Option (List ℕ) → UdpPorts → Type 0
PortGives old port size answer new =
    (new.peers ≡ old.peers) × SocketGives old.device port size answer new.device

-- it was asked, and failed
abbrev pub PortFails : UdpPorts → ℕ → ℕ → UdpPorts → Type 0
PortFails old port size new = (new.peers ≡ old.peers) × SocketFails old.device port size new.device

-- each copy of a packet was sent, in order
abbrev pub PortSends : UdpPorts → Given → UdpPorts → Type 0
PortSends old packet new = (new.peers ≡ old.peers) × SendsEach SocketSends
    (copies_of (by_ip (peers_of old.peers.items)) packet) old.device new.device

-- the copies before one that was refused were sent
abbrev pub PortRefuses : UdpPorts → Given → UdpPorts → Type 0
PortRefuses old packet new = (new.peers ≡ old.peers) × SendsSomeOf SocketSends SocketRefuses
    (copies_of (by_ip (peers_of old.peers.items)) packet) old.device new.device
