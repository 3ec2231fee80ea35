-- How one call leaves UDP sockets, and a device over another one with access lists: of `receive`, which gave an
-- answer, and of `send`, for a datagram. Defined by this project.
use Rattle.std.specs.Prelude.{◌≡◌, ◌⊎◌, ℕ, true, false, List, IfSome, Option, Some, None, if◌then◌else◌, length, slice_get}
use Rattle.std.specs.declared.io.Error.{Error}
use Rattle.std.specs.declared.net.socket_addr.SocketAddrV4.{SocketAddrV4}
use Rattle.ipx_carrier.specs.Counting.{raised}
use Rattle.ipx_carrier.specs.Device.{Datagram, received_in}
use Rattle.ipx_carrier.specs.ReadySet.{is_port_marked, marks_after}
use Rattle.ipx_carrier.specs.Traces.{Got, v4_at}
use Rattle.ipx_sockets.specs.declared.port_filter_drops.PortFilterDrops.{PortFilterDrops}
use Rattle.ipx_sockets.specs.declared.source_filter.AccessList.{AccessList}
use Rattle.ipx_sockets.specs.declared.source_filter.SourceFilter.{SourceFilter}
use Rattle.ipx_sockets.specs.declared.sockets.PortSocket.{PortSocket}
use Rattle.ipx_sockets.specs.declared.sockets.UdpSockets.{UdpSockets}
use Rattle.ipx_sockets.specs.PortFilterDrops.{drops_changed_at, one_refused, one_unknown_sender}
use Rattle.ipx_sockets.specs.Senders.{AsksForPacket, RefusesPacket, SendsPacket, sender_after, size_got}
use Rattle.ipx_sockets.specs.SourceFilter.{TakesIn, may_come, may_go}

-- sockets have sent and received nothing, and the system refused nothing
abbrev pub HasCountedNothing : UdpSockets → Type 0
HasCountedNothing d = (d.sent ≡ 0) × (d.faults ≡ 0) × (d.last_not_sent ≡ None) × (d.sender ≡ None)

-- a port was asked, into a buffer of this size, and gave this answer. Without a mark its socket is not asked, the
-- answer is None, and nothing changes. With one, the answer is what its socket got. The mark is cleared exactly
-- if nothing waits, and the last sender is that of what came. Nothing else changes
abbrev pub ReceivesPacket : UdpSockets → ℕ → ℕ → Option (List ℕ) → UdpSockets → Type 0
ReceivesPacket old port size answer new = (is_port_marked old.marks port ≡ false → (answer ≡ None) × (new ≡ old))
    × (is_port_marked old.marks port ≡ true → (got : Got) × (room : List ℕ) × (length room ≡ size)
    × AsksForPacket port got room old.sockets.items new.sockets.items old.faults new.faults
    × (new.marks ≡ marks_after port got old.marks) × (answer ≡ received_in room (size_got got))
    × (new.sender ≡ sender_after got old.sender))
    × (new ≡ record old { sockets = new.sockets; marks = new.marks; faults = new.faults; sender = new.sender })

-- the last datagram that the system refused to send was for this IP address, at the UDP port of the port's peers
abbrev pub IsLastNotSent : ℕ → List ℕ → List PortSocket → Option (SocketAddrV4 × Error) → Type 0
IsLastNotSent port ip sockets last =
    IfSome (slice_get sockets port) (λ s. (error : Error) × (last ≡ Some (v4_at ip s.udp_port, error)))

-- the socket of a port sent a datagram to its address, at the UDP port of its peers, or the system refused it.
-- That is counted, what was refused is known, and nothing else changes
abbrev pub SendsDatagram : UdpSockets → Datagram → UdpSockets → Type 0
SendsDatagram old d new = (SendsPacket d.port d.to d.bytes old.sockets.items new.sockets.items
    × (new ≡ record old { sockets = new.sockets; sent = raised old.sent }))
    ⊎ (RefusesPacket d.port d.to d.bytes old.sockets.items new.sockets.items
    × IsLastNotSent d.port d.to old.sockets.items new.last_not_sent
    × (new ≡ record old {
      sockets = new.sockets;
      faults = raised old.faults;
      last_not_sent = new.last_not_sent;
    }))

-- the drops by port after a port was asked, and this many bytes came from there, or none: a datagram from an unknown
-- sender is counted at that port, and nothing else is
abbrev pub drops_after : Option AccessList → Option (List ℕ) → ℕ → Option ℕ → List PortFilterDrops → List PortFilterDrops
drops_after g from port None ports = ports
drops_after g from port (Some n) ports =
    if may_come g from then ports else drops_changed_at ports port one_unknown_sender

-- a port of a device with access lists was asked. The device below was asked, and what it received is the answer
-- if the access list of the port accepts it; otherwise that is counted, and the answer is None. A datagram from
-- an unknown sender is counted at its port too. Nothing else changes
abbrev pub ReceivesThroughFilter : {D : Type 0} → (D → ℕ → ℕ → Option (List ℕ) → D → Type 0) → (D → Option (List ℕ)) → SourceFilter D → ℕ → ℕ → Option (List ℕ) → SourceFilter D → Type 0
ReceivesThroughFilter receives last_sender old port size answer new = (room : List ℕ) × (came up : Option ℕ)
    × receives old.device port size (received_in room came) new.device
    × TakesIn (slice_get old.access_lists.items port) (last_sender new.device) room came up old.kept new.kept
    × (answer ≡ received_in room up)
    × (new ≡ record old {
      device = new.device;
      kept = new.kept;
      port_counters = drops_after (slice_get old.access_lists.items port) (last_sender new.device) port came old.port_counters;
    })

-- a datagram that its port does not send there is counted, also at its port, and was the last one
abbrev pub one_not_sent : {D : Type 0} → Datagram → SourceFilter D → SourceFilter D
one_not_sent d p = record p {
  refused = raised p.refused;
  last_refused = Some d.to;
  port_counters = drops_changed_at p.port_counters d.port one_refused;
}

-- a datagram that may be sent there was sent by the device below, and nothing else changes. One that may not is
-- counted, and changes nothing there
abbrev pub SendsThroughFilter : {D : Type 0} → (D → Datagram → D → Type 0) → SourceFilter D → Datagram → SourceFilter D → Type 0
SendsThroughFilter sends old d new =
    (may_go (slice_get old.access_lists.items d.port) d.to ≡ true
    → sends old.device d new.device × (new ≡ record old { device = new.device }))
    × (may_go (slice_get old.access_lists.items d.port) d.to ≡ false → new ≡ one_not_sent d old)

-- the device below failed so, and nothing else changed
abbrev pub FailsThroughFilter : {D : Type 0} → (D → D → Type 0) → SourceFilter D → SourceFilter D → Type 0
FailsThroughFilter fails old new = fails old.device new.device × (new ≡ record old { device = new.device })
