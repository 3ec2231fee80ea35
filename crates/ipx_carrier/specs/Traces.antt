-- Where a socket is bound, and what it was asked, as its trace says.
use Rattle.std.specs.Prelude.{◌≡◌, ◌<◌, ◌≤◌, ◌+◌, ℕ, List, [], ◌∷◌, ◌++◌, length, Option, Some, None, Result, Ok, Err, IfSome, ℤ, map, replicate, slice_get, slice_set, take}
use Rattle.std.specs.Net.Udp.{udp_raw_fd}
use Rattle.std.specs.declared.net.socket_addr.SocketAddr.{SocketAddr}
use Rattle.std.specs.declared.net.socket_addr.SocketAddrV4.{SocketAddrV4}
use Rattle.std.specs.declared.net.socket_addr.SocketAddr.TheVariants.{V4}
use Rattle.ipx_carrier.specs.declared.fault.DeviceFault.{DeviceFault}
use Rattle.ipx_carrier.specs.declared.placed_socket.PlacedSocket.{PlacedSocket}
use Rattle.ipx_carrier.specs.Counting.{counted}
use Rattle.ipx_carrier.specs.SocketEvents.{SocketEvent, Received, FoundNothing, ReceiveFailed, Sent, SendRefused}

-- the descriptor of a socket
abbrev pub raw_fd_of : PlacedSocket → ℤ
raw_fd_of s = udp_raw_fd s.socket

-- a socket after these calls
abbrev pub after_events : PlacedSocket → List SocketEvent → PlacedSocket
after_events s events = record s { events = record { items = s.events.items ++ events } }

-- the socket address of an IP address and a UDP port
abbrev pub v4_at : List ℕ → ℕ → SocketAddrV4
v4_at ip port = record { ip = record { octets = ip }; port = port }

-- a socket after it sent a datagram, and after the system refused that
abbrev pub sent_to : PlacedSocket → SocketAddrV4 → List ℕ → PlacedSocket
sent_to s to bytes = after_events s (Sent (V4 to) bytes ∷ [])

abbrev pub refused_to : PlacedSocket → SocketAddrV4 → List ℕ → PlacedSocket
refused_to s to bytes = after_events s (SendRefused (V4 to) bytes ∷ [])

-- a socket after it was asked into a buffer of this size: it received a datagram; nothing waited; or the system
-- failed in each of so many calls
abbrev pub received_from : PlacedSocket → SocketAddr → ℕ → List ℕ → PlacedSocket
received_from s from size bytes = after_events s (Received from size bytes ∷ [])

abbrev pub found_nothing : PlacedSocket → ℕ → PlacedSocket
found_nothing s size = after_events s (FoundNothing size ∷ [])

abbrev pub failed_to_receive : ℕ → ℕ → PlacedSocket → PlacedSocket
failed_to_receive times size s = after_events s (replicate times (ReceiveFailed size))

-- what each socket was asked
abbrev pub socket_events : List PlacedSocket → List (List SocketEvent)
socket_events sockets = map (λ s. s.events.items) sockets

-- the socket of this port sent these bytes to this address, or the system refused them; no other changed
abbrev pub SendsTo : ℕ → SocketAddrV4 → List ℕ → List PlacedSocket → List PlacedSocket → Type 0
SendsTo port to bytes old new = IfSome (slice_get old port) (λ s. new ≡ slice_set old port (sent_to s to bytes))

abbrev pub RefusesTo : ℕ → SocketAddrV4 → List ℕ → List PlacedSocket → List PlacedSocket → Type 0
RefusesTo port to bytes old new = IfSome (slice_get old port) (λ s. new ≡ slice_set old port (refused_to s to bytes))

-- the socket of this port was asked once, into a buffer of this size, and gave this; no other changed
abbrev pub GivesOnce : ℕ → ℕ → Option (List ℕ) → List PlacedSocket → List PlacedSocket → Type 0
GivesOnce port size (Some bytes) old new = IfSome (slice_get old port) (λ s. (from : SocketAddr)
    × (new ≡ slice_set old port (received_from s from size bytes)) × (length bytes ≤ size))
GivesOnce port size None old new = IfSome (slice_get old port) (λ s. new ≡ slice_set old port (found_nothing s size))

-- the same, and the system failed
abbrev pub FailsOnce : ℕ → ℕ → List PlacedSocket → List PlacedSocket → Type 0
FailsOnce port size old new = IfSome (slice_get old port) (λ s. new ≡ slice_set old port (failed_to_receive 1 size s))

-- what a socket got that was asked again each time the system failed: the size of a datagram and its sender, or
-- None if nothing waits, or an error if the system failed at each try
abbrev pub Got : Type 0
Got = Result (Option (ℕ × SocketAddr)) DeviceFault

-- so many tries failed, of eight at most, and how they ended. Each was into the whole buffer
abbrev pub EndsTries : ℕ → Got → List ℕ → PlacedSocket → PlacedSocket → Type 0
EndsTries failed (Ok (Some came)) room old new = (failed < 8)
    × (new ≡ received_from (failed_to_receive failed (length room) old) came.1 (length room) (take came.0 room))
EndsTries failed (Ok None) room old new = (failed < 8) × (new ≡ found_nothing (failed_to_receive failed (length room) old) (length room))
EndsTries failed (Err _) room old new = (failed ≡ 8) × (new ≡ failed_to_receive 8 (length room) old)

-- a socket was asked so, and each failed try was counted
abbrev pub TriesToReceive : Got → List ℕ → PlacedSocket → PlacedSocket → ℕ → ℕ → Type 0
TriesToReceive got room old new faults faults_after = (failed : ℕ) × (faults_after ≡ counted (faults + failed))
    × EndsTries failed got room old new
