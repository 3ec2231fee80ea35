-- To which remote a UDP datagram goes and what it carries, and from which one it comes. A remote that is learned
-- is where its last frame came from. Defined by this project: a datagram over IPv6 comes from none.
use Rattle.std.specs.Prelude.{◌≡◌, ◌⊎◌, ◌<◌, ◌≤◌, ⊤, ℕ, ℤ, List, [], ◌∷◌, Bool, true, false, ◌==◌, ◌&&◌, ◌||◌, Option, Some, None, Result, Ok, Err, IfSome, is_some, MatchBool, if◌then◌else◌, length, map, min, nat_lt, position, slice_get, slice_set, take}
use Rattle.std.specs.Str.{bytes_eq}
use Rattle.std.specs.Net.Addr.{ipv4_octets}
use Rattle.std.specs.Net.Socket.{v4_ip, v4_port}
use Rattle.std.specs.declared.net.socket_addr.SocketAddr.{SocketAddr}
use Rattle.std.specs.declared.net.socket_addr.SocketAddr.TheVariants.{V4, V6}
use Rattle.std.specs.declared.net.socket_addr.SocketAddrV4.{SocketAddrV4}
use Rattle.ipx_carrier.specs.declared.fault.DeviceFault.{DeviceFault}
use Rattle.ipx_carrier.specs.declared.placed_socket.PlacedSocket.{PlacedSocket}
use Rattle.ipx_carrier.specs.Counting.{raised}
use Rattle.ipx_carrier.specs.ReadySet.{IsFilteredOrAnswer, is_come, is_port_marked, marks_after}
use Rattle.ipx_carrier.specs.SocketEvents.{SocketEvent}
use Rattle.ipx_carrier.specs.Traces.{Got, TriesToReceive, raw_fd_of, refused_to, sent_to}
use Rattle.ipx_ethernet_ports.specs.declared.end_sockets.FrameCame.{FrameCame}
use Rattle.ipx_ethernet_ports.specs.declared.remotes.Remotes.{Remotes}
use Rattle.ipx_ethernet_ports.specs.declared.remotes.Remotes.TheVariants.{Fixed, Learned}
use Rattle.ipx_ethernet_ports.specs.declared.socket.EthernetSocket.{EthernetSocket}
use Rattle.ipx_ethernet_ports.specs.declared.sockets.EthernetSockets.{EthernetSockets}
use Rattle.ipx_ethernet_ports.specs.declared.socket.Arrival.{Arrival}
use Rattle.ipx_ethernet_ports.specs.declared.socket.Arrival.TheVariants.{Failed, Frame, NoFrame, Nothing, Unknown}
use Rattle.ipx_ethernet_ports.specs.declared.tunnel_drops.TunnelDrops.{TunnelDrops}
use Rattle.ipx_ethernet_ports.specs.EndTraffic.{EndFrame}
use Rattle.ipx_ethernet_ports.specs.TunnelDrops.{drop_counted}
use Rattle.ipx_tunnels.specs.declared.fault.TunnelFault.{TunnelFault}
use Rattle.ipx_tunnels.specs.declared.tunnel.Tunnel.{Tunnel}
use Rattle.ipx_tunnels.specs.declared.tunnel.Tunnel.TheVariants.{L2tpv3, Plain, Vxlan}
use Rattle.ipx_tunnels.specs.Tunnels.{IsInTunnel, datagram_of}
use Rattle.ipx_tunnels.specs.TunnelFaults.{tunnel_fault}

-- a datagram is a frame alone
abbrev pub is_plain : Tunnel → Bool
is_plain Plain = true
is_plain (Vxlan vni) = false
is_plain (L2tpv3 s) = false

-- in VXLAN the IP address alone says which remote sent a datagram: its UDP port may be any (RFC 7348)
abbrev pub is_any_port : Tunnel → Bool
is_any_port Plain = false
is_any_port (Vxlan vni) = true
is_any_port (L2tpv3 s) = false

-- what a remote at this address sends by the tunnel comes from this address
abbrev pub is_place : Tunnel → SocketAddr → SocketAddrV4 → Bool
is_place tunnel (V4 a) place =
    bytes_eq (ipv4_octets (v4_ip place)) (ipv4_octets (v4_ip a)) && (is_any_port tunnel || v4_port place == v4_port a)
is_place tunnel (V6 a) place = false

-- the first remote with this address
abbrev pub end_at_place : Tunnel → SocketAddr → List SocketAddrV4 → Option ℕ
end_at_place tunnel from ends = position (is_place tunnel from) ends

-- the remote from which a datagram came: that at its address, or the one that is learned, which may send from any
-- address of IPv4
abbrev pub end_from : Tunnel → SocketAddr → Remotes → Option ℕ
end_from tunnel from (Fixed places) = end_at_place tunnel from places.items
end_from tunnel (V4 a) (Learned place) = Some 0
end_from tunnel (V6 a) (Learned place) = None

-- how many remotes there are
abbrev pub remote_count : Remotes → ℕ
remote_count (Fixed places) = length places.items
remote_count (Learned place) = 1

-- the place of a remote, if it is known
abbrev pub place_of_end : Remotes → ℕ → Option SocketAddrV4
place_of_end (Fixed places) end = slice_get places.items end
place_of_end (Learned place) end = place

-- the remotes once a frame came from here: the one that is learned is there
abbrev pub learned_from : SocketAddr → Remotes → Remotes
learned_from from (Fixed places) = Fixed places
learned_from (V4 a) (Learned place) = Learned (Some a)
learned_from (V6 a) (Learned place) = Learned place

-- the places that are known, and whether there is one remote that is learned
abbrev pub known_places : Remotes → List SocketAddrV4
known_places (Fixed places) = places.items
known_places (Learned None) = []
known_places (Learned (Some place)) = place ∷ []

abbrev pub is_learned : Remotes → Bool
is_learned (Fixed places) = false
is_learned (Learned place) = true

-- how many remotes each socket has
abbrev pub remote_counts : List EthernetSocket → List ℕ
remote_counts ethernet = map (λ w. remote_count w.remotes) ethernet

-- the known places of the remotes of each, and which of them learn the place of theirs
abbrev pub remote_places : List EthernetSocket → List (List SocketAddrV4)
remote_places ethernet = map (λ w. known_places w.remotes) ethernet

abbrev pub learning_sockets : List EthernetSocket → List Bool
learning_sockets ethernet = map (λ w. is_learned w.remotes) ethernet

-- where each is bound
abbrev pub bound_places : List EthernetSocket → List SocketAddrV4
bound_places ethernet = map (λ w. w.socket.at) ethernet

-- what the socket of each was asked, by its trace
abbrev pub ethernet_events : List EthernetSocket → List (List SocketEvent)
ethernet_events ethernet = map (λ w. w.socket.events.items) ethernet

-- the descriptor of the socket of each
abbrev pub ethernet_fds : List EthernetSocket → List ℤ
ethernet_fds ethernet = map (λ w. raw_fd_of w.socket) ethernet

-- the tunnel of each
abbrev pub remote_tunnels : List EthernetSocket → List Tunnel
remote_tunnels ethernet = map (λ w. w.tunnel) ethernet

-- what each of them dropped
abbrev pub remote_drops : List EthernetSocket → List TunnelDrops
remote_drops ethernet = map (λ w. w.drops) ethernet

-- the place of a remote of a port, if it is known
abbrev pub remote_at : Option EthernetSocket → ℕ → Option SocketAddrV4
remote_at None end = None
remote_at (Some w) end = place_of_end w.remotes end

-- what a socket dropped because it had no frame in the tunnel, if it has one
abbrev pub tunnel_drops : Option EthernetSocket → Option TunnelDrops
tunnel_drops None = None
tunnel_drops (Some w) = if is_plain w.tunnel then None else Some w.drops

-- the size of the buffer in which the datagrams of a tunnel are made and received. A longer one is refused
abbrev pub datagram_room : ℕ
datagram_room = 2048

abbrev pub is_too_long : Tunnel → List ℕ → Bool
is_too_long tunnel frame = if is_plain tunnel then false else nat_lt datagram_room (length (datagram_of tunnel frame))

-- a socket after it sent a frame by its tunnel, and after it did not: the system refused the datagram, or was
-- not asked, since that is too long
abbrev pub frame_sent : Tunnel → SocketAddrV4 → List ℕ → PlacedSocket → PlacedSocket
frame_sent tunnel to frame socket = sent_to socket to (datagram_of tunnel frame)

abbrev pub frame_refused : Tunnel → SocketAddrV4 → List ℕ → PlacedSocket → PlacedSocket
frame_refused tunnel to frame socket =
    if is_too_long tunnel frame then socket else refused_to socket to (datagram_of tunnel frame)

-- the socket of this port sent this frame by its tunnel to the place of this remote, or did not; no other changed
abbrev pub SendsFrame : ℕ → ℕ → List ℕ → List EthernetSocket → List EthernetSocket → Type 0
SendsFrame port end frame old new = IfSome (slice_get old port) (λ w. (to : SocketAddrV4)
    × (place_of_end w.remotes end ≡ Some to)
    × (new ≡ slice_set old port (record w { socket = frame_sent w.tunnel to frame w.socket })))

abbrev pub RefusesFrame : ℕ → ℕ → List ℕ → List EthernetSocket → List EthernetSocket → Type 0
RefusesFrame port end frame old new = IfSome (slice_get old port) (λ w. (to : SocketAddrV4)
    × (place_of_end w.remotes end ≡ Some to)
    × (new ≡ slice_set old port (record w { socket = frame_refused w.tunnel to frame w.socket })))

-- how many frames were sent then: none more if no place is known yet
abbrev pub sent_counted : Option SocketAddrV4 → ℕ → ℕ
sent_counted None sent = sent
sent_counted (Some to) sent = raised sent

-- the place of this remote is not known yet, so the frame was not sent, and no socket changed
abbrev pub KnowsNoPlace : ℕ → ℕ → List EthernetSocket → List EthernetSocket → Type 0
KnowsNoPlace port end old new =
    IfSome (slice_get old port) (λ w. place_of_end w.remotes end ≡ None) × (new ≡ old)

-- the buffer that a socket receives into: frames that are alone go into the caller's
abbrev pub IsBufferOf : Tunnel → List ℕ → List ℕ → Type 0
IsBufferOf tunnel buffer room = MatchBool (is_plain tunnel) (buffer ≡ room) (length buffer ≡ datagram_room)

-- a frame came by the tunnel in a datagram of these bytes. As much of it as fits is at the front of the room
abbrev pub IsFrameIn : Tunnel → List ℕ → ℕ → List ℕ → Type 0
IsFrameIn tunnel bytes size room = (frame : List ℕ) × IsInTunnel tunnel bytes frame
    × (size ≡ min (length frame) (length room)) × (take size room ≡ take size frame)

-- what is handed over of a datagram of these bytes: the frame, if a remote sent it, and it has one
abbrev pub HandsFrame : Tunnel → List ℕ → List ℕ → Option ℕ → Option TunnelFault → Option FrameCame → Type 0
HandsFrame tunnel bytes room None fault answer = answer ≡ None
HandsFrame tunnel bytes room (Some end) (Some fault) answer = answer ≡ None
HandsFrame tunnel bytes room (Some end) None answer = (size : ℕ) × IsFrameIn tunnel bytes size room
    × (answer ≡ Some (record { end = end; size = size }))

-- what is handed over of what a socket with this tunnel and these remotes got
abbrev pub HandsOver : Tunnel → Remotes → Got → List ℕ → List ℕ → Option FrameCame → Type 0
HandsOver tunnel remotes (Ok (Some came)) buffer room answer =
    HandsFrame tunnel (take came.0 buffer) room (end_from tunnel came.1 remotes) (tunnel_fault tunnel (take came.0 buffer)) answer
HandsOver tunnel remotes (Ok None) buffer room answer = answer ≡ None
HandsOver tunnel remotes (Err _) buffer room answer = answer ≡ None

-- what is counted then: a datagram of a remote, if it has no frame
abbrev pub drops_of : SocketAddr → Option ℕ → Option TunnelFault → TunnelDrops → TunnelDrops
drops_of from None fault drops = drops
drops_of from (Some end) None drops = drops
drops_of from (Some end) (Some fault) drops = drop_counted from fault drops

abbrev pub drops_after : Tunnel → Remotes → Got → List ℕ → TunnelDrops → TunnelDrops
drops_after tunnel remotes (Ok (Some came)) buffer drops =
    drops_of came.1 (end_from tunnel came.1 remotes) (tunnel_fault tunnel (take came.0 buffer)) drops
drops_after tunnel remotes (Ok None) buffer drops = drops
drops_after tunnel remotes (Err _) buffer drops = drops

-- what the remotes are then: a frame shows where the one that is learned is, and nothing else does
abbrev pub remotes_of : SocketAddr → Option ℕ → Option TunnelFault → Remotes → Remotes
remotes_of from None fault remotes = remotes
remotes_of from (Some end) (Some fault) remotes = remotes
remotes_of from (Some end) None remotes = learned_from from remotes

abbrev pub remotes_after : Tunnel → Got → List ℕ → Remotes → Remotes
remotes_after tunnel (Ok (Some came)) buffer remotes =
    remotes_of came.1 (end_from tunnel came.1 remotes) (tunnel_fault tunnel (take came.0 buffer)) remotes
remotes_after tunnel (Ok None) buffer remotes = remotes
remotes_after tunnel (Err _) buffer remotes = remotes

-- the address of a sender, if it is of IPv4
abbrev pub place_of_sender : SocketAddr → Option SocketAddrV4
place_of_sender (V4 a) = Some a
place_of_sender (V6 a) = None

-- the unknown sender of what a socket got, if it is one
abbrev pub unknown_of : SocketAddr → Option ℕ → Option SocketAddr
unknown_of from None = Some from
unknown_of from (Some end) = None

abbrev pub unknown_sender : Tunnel → Remotes → Got → Option SocketAddr
unknown_sender tunnel remotes (Ok (Some came)) = unknown_of came.1 (end_from tunnel came.1 remotes)
unknown_sender tunnel remotes (Ok None) = None
unknown_sender tunnel remotes (Err _) = None

-- how many unknown senders there were then, and the address of the last one
abbrev pub unknown_counted : Option SocketAddr → ℕ → ℕ
unknown_counted None count = count
unknown_counted (Some from) count = raised count

abbrev pub last_unknown_after : Option SocketAddr → Option SocketAddrV4 → Option SocketAddrV4
last_unknown_after None last = last
last_unknown_after (Some from) last = place_of_sender from

-- a marked port was asked, and gave this answer: its socket was, and no other changed. Each failure is counted.
-- The mark is cleared exactly if nothing waits. What came and is not handed over is counted: what came from an
-- unknown sender, whose address is the last unknown one, and what a remote sent that has no frame, at the port
abbrev pub AsksMarkedPort : ℕ → Option FrameCame → List ℕ → EthernetSockets → EthernetSockets → Type 0
AsksMarkedPort port answer room old new = IfSome (slice_get old.ethernet.items port) (λ w.
    (got : Got) × (buffer : List ℕ) × (after : PlacedSocket)
    × IsBufferOf w.tunnel buffer room
    × TriesToReceive got buffer w.socket after old.faults new.faults
    × (new.ethernet.items ≡ slice_set old.ethernet.items port (record w {
      socket = after;
      drops = drops_after w.tunnel w.remotes got buffer w.drops;
      remotes = remotes_after w.tunnel got buffer w.remotes;
    }))
    × HandsOver w.tunnel w.remotes got buffer room answer
    × (new.marks ≡ marks_after port got old.marks)
    × (new.unknown_senders ≡ unknown_counted (unknown_sender w.tunnel w.remotes got) old.unknown_senders)
    × (new.last_unknown ≡ last_unknown_after (unknown_sender w.tunnel w.remotes got) old.last_unknown)
    × IsFilteredOrAnswer (is_come got) (is_some answer) old.filtered new.filtered)

-- a port was asked, and gave this answer. Without a mark the system is not asked, the answer is None, and
-- nothing changes. It never fails
abbrev pub AsksEthernetSockets : ℕ → Result (Option FrameCame) DeviceFault → List ℕ → EthernetSockets → EthernetSockets → Type 0
AsksEthernetSockets port (Ok answer) room old new = (is_port_marked old.marks port ≡ false → (answer ≡ None) × (new ≡ old))
    × (is_port_marked old.marks port ≡ true → AsksMarkedPort port answer room old new)
    × (new.sent ≡ old.sent) × (new.failures ≡ old.failures)
AsksEthernetSockets port (Err _) room old new = ⊥

-- the socket of the port of a frame was asked to send it to the place of its remote. The system took it or
-- refused it, and that is counted. Or no place is known yet, and nothing was asked or counted. All else stays
abbrev pub SendsByEthernetSockets : EthernetSockets → EndFrame → EthernetSockets → Type 0
SendsByEthernetSockets old f new = (((new.sent ≡ raised old.sent) × (new.failures ≡ old.failures)
    × SendsFrame f.port f.end f.bytes old.ethernet.items new.ethernet.items)
    ⊎ (((new.sent ≡ old.sent) × (new.failures ≡ raised old.failures)
    × RefusesFrame f.port f.end f.bytes old.ethernet.items new.ethernet.items)
    ⊎ ((new.sent ≡ old.sent) × (new.failures ≡ old.failures)
    × KnowsNoPlace f.port f.end old.ethernet.items new.ethernet.items)))
    × (new.faults ≡ old.faults) × (new.filtered ≡ old.filtered) × (new.unknown_senders ≡ old.unknown_senders)
    × (new.last_unknown ≡ old.last_unknown) × (new.marks ≡ old.marks)

-- ---- definitions for the private functions

-- what a socket makes of a datagram of these bytes
abbrev pub MakesOfDatagram : Tunnel → SocketAddr → List ℕ → List ℕ → Option ℕ → Option TunnelFault → Arrival → Type 0
MakesOfDatagram tunnel from bytes room None fault arrival = arrival ≡ Unknown from
MakesOfDatagram tunnel from bytes room (Some end) (Some fault) arrival = arrival ≡ NoFrame
MakesOfDatagram tunnel from bytes room (Some end) None arrival = (size : ℕ) × IsFrameIn tunnel bytes size room
    × (arrival ≡ Frame (record { end = end; size = size }))

-- what it makes of what it got
abbrev pub MakesOf : Tunnel → Remotes → Got → List ℕ → List ℕ → Arrival → Type 0
MakesOf tunnel remotes (Ok (Some came)) buffer room arrival =
    MakesOfDatagram tunnel came.1 (take came.0 buffer) room (end_from tunnel came.1 remotes) (tunnel_fault tunnel (take came.0 buffer)) arrival
MakesOf tunnel remotes (Ok None) buffer room arrival = arrival ≡ Nothing
MakesOf tunnel remotes (Err _) buffer room arrival = arrival ≡ Failed

-- it was asked into a buffer of the room's, or of its own. Each failure is counted, and what it drops
abbrev pub AsksSocket : EthernetSocket → List ℕ → Arrival → EthernetSocket → ℕ → ℕ → Type 0
AsksSocket old room arrival new faults faults_after = (got : Got) × (buffer : List ℕ) × (after : PlacedSocket)
    × IsBufferOf old.tunnel buffer room
    × TriesToReceive got buffer old.socket after faults faults_after
    × (new ≡ record old {
      socket = after;
      drops = drops_after old.tunnel old.remotes got buffer old.drops;
      remotes = remotes_after old.tunnel got buffer old.remotes;
    })
    × MakesOf old.tunnel old.remotes got buffer room arrival

-- a frame is of a remote, and no longer than the room
abbrev pub IsArrivalWithin : ℕ → ℕ → Arrival → Type 0
IsArrivalWithin ends size (Frame came) = (came.end < ends) × (came.size ≤ size)
IsArrivalWithin ends size NoFrame = ⊤
IsArrivalWithin ends size (Unknown from) = ⊤
IsArrivalWithin ends size Nothing = ⊤
IsArrivalWithin ends size Failed = ⊤
