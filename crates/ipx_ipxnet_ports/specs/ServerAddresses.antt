-- Where the sockets of ipxnet servers are bound, where a datagram goes and which one comes, and whether its
-- source address is accepted. Defined by this project: a datagram over IPv6 is never accepted.
use Rattle.std.specs.Prelude.{◌≡◌, ◌⊎◌, ℕ, ℤ, List, Bool, true, false, if◌then◌else◌, Option, Some, None, Result, Ok, Err, IfSome, is_some, map, slice_get, slice_set}
use Rattle.std.specs.Option.{option_map}
use Rattle.std.specs.Net.Addr.{ipv4_octets}
use Rattle.std.specs.Net.Socket.{v4_ip}
use Rattle.std.specs.declared.net.socket_addr.SocketAddr.{SocketAddr}
use Rattle.std.specs.declared.net.socket_addr.SocketAddr.TheVariants.{V4, V6}
use Rattle.std.specs.declared.net.socket_addr.SocketAddrV4.{SocketAddrV4}
use Rattle.ip_prefixes.specs.Prefixes.{is_in_some}
use Rattle.ip_prefixes.specs.declared.prefix.Prefix.{Prefix}
use Rattle.ipx_carrier.specs.declared.fault.DeviceFault.{DeviceFault}
use Rattle.ipx_carrier.specs.declared.placed_socket.PlacedSocket.{PlacedSocket}
use Rattle.ipx_carrier.specs.Counting.{raised}
use Rattle.ipx_carrier.specs.ReadySet.{IsFilteredOrAnswer, is_come, is_port_marked, marks_after}
use Rattle.ipx_carrier.specs.SocketEvents.{SocketEvent}
use Rattle.ipx_carrier.specs.Traces.{Got, TriesToReceive, raw_fd_of, refused_to, sent_to}
use Rattle.ipx_ipxnet_ports.specs.declared.allow.Allow.{Allow}
use Rattle.ipx_ipxnet_ports.specs.declared.allow.Allow.TheVariants as Allowed
use Rattle.ipx_ipxnet_ports.specs.declared.place_sockets.DatagramCame.{DatagramCame}
use Rattle.ipx_ipxnet_ports.specs.declared.sockets.ServerSocket.{ServerSocket}
use Rattle.ipx_ipxnet_ports.specs.declared.sockets.ServerSockets.{ServerSockets}
use Rattle.ipx_ipxnet_ports.specs.PlaceTraffic.{PlaceDatagram}

-- the prefixes that are named; None means that every IP address is in one
abbrev pub listed_prefixes : Allow → Option (List Prefix)
listed_prefixes Allowed.Any = None
listed_prefixes (Allowed.List prefixes) = Some prefixes.items

-- those from whose IP addresses a socket accepts datagrams
abbrev pub prefixes_heard : ServerSocket → Option (List Prefix)
prefixes_heard s = listed_prefixes s.allow

abbrev pub is_ip_heard : Option (List Prefix) → List ℕ → Bool
is_ip_heard None ip = true
is_ip_heard (Some prefixes) ip = is_in_some prefixes ip

-- the source address of a datagram, if a socket accepts it: it is one of IPv4, and its IP address is accepted
abbrev pub place_heard : ServerSocket → SocketAddr → Option SocketAddrV4
place_heard s (V4 a) = if is_ip_heard (prefixes_heard s) (ipv4_octets (v4_ip a)) then Some a else None
place_heard s (V6 a) = None

-- the IP address of a sender, if it is of IPv4
abbrev pub ipv4_of_place : SocketAddr → Option (List ℕ)
ipv4_of_place (V4 a) = Some (ipv4_octets (v4_ip a))
ipv4_of_place (V6 a) = None

-- where each socket is bound
abbrev pub bound_places : List ServerSocket → List SocketAddrV4
bound_places sockets = map (λ s. s.socket.at) sockets

-- what each was asked, by its trace
abbrev pub server_events : List ServerSocket → List (List SocketEvent)
server_events sockets = map (λ s. s.socket.events.items) sockets

-- the descriptor of each
abbrev pub server_fds : List ServerSocket → List ℤ
server_fds sockets = map (λ s. raw_fd_of s.socket) sockets

-- the socket of this port sent these bytes to this address, or the system refused them; no other changed
abbrev pub SendsToPlace : ℕ → SocketAddrV4 → List ℕ → List ServerSocket → List ServerSocket → Type 0
SendsToPlace port to bytes old new = IfSome (slice_get old port) (λ s.
    new ≡ slice_set old port (record s { socket = sent_to s.socket to bytes }))

abbrev pub RefusesToPlace : ℕ → SocketAddrV4 → List ℕ → List ServerSocket → List ServerSocket → Type 0
RefusesToPlace port to bytes old new = IfSome (slice_get old port) (λ s.
    new ≡ slice_set old port (record s { socket = refused_to s.socket to bytes }))

-- the datagram that is handed over, of what a socket got: none if it came from an address that is not accepted
abbrev pub datagram_handed : ServerSocket → Got → Option DatagramCame
datagram_handed s (Ok (Some came)) = option_map (λ from. record { from = from; size = came.0 }) (place_heard s came.1)
datagram_handed s (Ok None) = None
datagram_handed s (Err _) = None

-- the socket of this port was asked and got this, of which it hands over that; no other changed. Each failure
-- was counted
abbrev pub AsksForDatagram : ℕ → Got → List ℕ → Option DatagramCame → List ServerSocket → List ServerSocket → ℕ → ℕ → Type 0
AsksForDatagram port got room answer old new faults faults_after = IfSome (slice_get old port) (λ s. (after : PlacedSocket)
    × TriesToReceive got room s.socket after faults faults_after
    × (new ≡ slice_set old port (record s { socket = after }))
    × (answer ≡ datagram_handed s got))

-- the IP address of the last datagram that was not handed over
abbrev pub last_refused : Got → Bool → Option (List ℕ) → Option (List ℕ)
last_refused (Ok (Some came)) is_handed last = if is_handed then last else ipv4_of_place came.1
last_refused (Ok None) is_handed last = last
last_refused (Err _) is_handed last = last

-- a marked port was asked, and gave this answer: its socket was. The mark is cleared exactly if nothing waits.
-- What came from an address that is not accepted is counted, and its IP address is the last unknown one
abbrev pub AsksMarkedPort : ℕ → Option DatagramCame → List ℕ → ServerSockets → ServerSockets → Type 0
AsksMarkedPort port answer room old new = (got : Got)
    × AsksForDatagram port got room answer old.sockets.items new.sockets.items old.faults new.faults
    × (new.marks ≡ marks_after port got old.marks)
    × (new.last_unknown ≡ last_refused got (is_some answer) old.last_unknown)
    × IsFilteredOrAnswer (is_come got) (is_some answer) old.nowhere new.nowhere

-- a port was asked, and gave this answer. Without a mark the system is not asked, the answer is None, and
-- nothing changes. It never fails
abbrev pub AsksServerSockets : ℕ → Result (Option DatagramCame) DeviceFault → List ℕ → ServerSockets → ServerSockets → Type 0
AsksServerSockets port (Ok answer) room old new = (is_port_marked old.marks port ≡ false → (answer ≡ None) × (new ≡ old))
    × (is_port_marked old.marks port ≡ true → AsksMarkedPort port answer room old new)
    × (new.sent ≡ old.sent) × (new.failures ≡ old.failures)
AsksServerSockets port (Err _) room old new = ⊥

-- the socket of the port of a datagram was asked to send it to its address. The system took it or refused it, and
-- that is counted. All else stays
abbrev pub SendsByServerSockets : ServerSockets → PlaceDatagram → ServerSockets → Type 0
SendsByServerSockets old d new = (((new.sent ≡ raised old.sent) × (new.failures ≡ old.failures)
    × SendsToPlace d.port d.place d.bytes old.sockets.items new.sockets.items)
    ⊎ ((new.sent ≡ old.sent) × (new.failures ≡ raised old.failures)
    × RefusesToPlace d.port d.place d.bytes old.sockets.items new.sockets.items))
    × (new.faults ≡ old.faults) × (new.nowhere ≡ old.nowhere)
    × (new.last_unknown ≡ old.last_unknown) × (new.marks ≡ old.marks)

-- ---- definitions for the private functions

-- what a socket got, its sender, and the same as an IPv4 address if it accepts that
abbrev pub with_place : ServerSocket → Got → Result (Option (ℕ × SocketAddr × Option SocketAddrV4)) DeviceFault
with_place s (Ok (Some came)) = Ok (Some (came.0, came.1, place_heard s came.1))
with_place s (Ok None) = Ok None
with_place s (Err fault) = Err fault
