-- The sockets of RFC 1234 ports: where each sends its datagrams, and from which sender each datagram comes.
-- Defined by this project: a sender over IPv6 has no node.
use Rattle.std.specs.Prelude.{◌≡◌, ℕ, ℤ, List, Option, Some, None, Ok, Err, IfSome, map, slice_get, slice_set}
use Rattle.ipx_carrier.specs.declared.placed_socket.PlacedSocket.{PlacedSocket}
use Rattle.ipx_carrier.specs.SocketEvents.{SocketEvent}
use Rattle.ipx_carrier.specs.Traces.{Got, TriesToReceive, raw_fd_of, refused_to, sent_to, v4_at}
use Rattle.ipx_ipxnet_ports.specs.ServerAddresses.{ipv4_of_place}
use Rattle.ipx_sockets.specs.declared.sockets.PortSocket.{PortSocket}

-- what each socket was asked, by its trace
abbrev pub udp_events : List PortSocket → List (List SocketEvent)
udp_events sockets = map (λ s. s.socket.events.items) sockets

-- the descriptor of each socket
abbrev pub udp_fds : List PortSocket → List ℤ
udp_fds sockets = map (λ s. raw_fd_of s.socket) sockets

-- the socket of this port sent these bytes to this IP address, at the UDP port of its peers, or the system
-- refused them; no other changed
abbrev pub SendsPacket : ℕ → List ℕ → List ℕ → List PortSocket → List PortSocket → Type 0
SendsPacket port ip bytes old new = IfSome (slice_get old port) (λ s.
    new ≡ slice_set old port (record s { socket = sent_to s.socket (v4_at ip s.udp_port) bytes }))

abbrev pub RefusesPacket : ℕ → List ℕ → List ℕ → List PortSocket → List PortSocket → Type 0
RefusesPacket port ip bytes old new = IfSome (slice_get old port) (λ s.
    new ≡ slice_set old port (record s { socket = refused_to s.socket (v4_at ip s.udp_port) bytes }))

-- the size of what a socket got, if something came, and the last sender after that
abbrev pub size_got : Got → Option ℕ
size_got (Ok (Some came)) = Some came.0
size_got (Ok None) = None
size_got (Err _) = None

abbrev pub sender_after : Got → Option (List ℕ) → Option (List ℕ)
sender_after (Ok (Some came)) sender = ipv4_of_place came.1
sender_after (Ok None) sender = sender
sender_after (Err _) sender = sender

-- the socket of this port was asked and got this; no other changed. Each failure was counted
abbrev pub AsksForPacket : ℕ → Got → List ℕ → List PortSocket → List PortSocket → ℕ → ℕ → Type 0
AsksForPacket port got room old new faults faults_after = IfSome (slice_get old port) (λ s. (after : PlacedSocket)
    × TriesToReceive got room s.socket after faults faults_after
    × (new ≡ slice_set old port (record s { socket = after })))
