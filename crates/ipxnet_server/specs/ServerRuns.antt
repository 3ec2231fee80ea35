-- What a server is after any calls, and what follows for its clients. Defined by this project.
use Rattle.std.specs.Prelude.{◌≡◌, ◌≤◌, ◌&&◌, ◌||◌, ℕ, ◌+◌, List, [], ◌∷◌, ◌++◌, map, Bool, true, false, Option, is_some}
use Rattle.std.specs.List.{list_any}
use Rattle.std.specs.Str.{bytes_eq}
use Rattle.std.specs.declared.net.socket_addr.SocketAddrV4.{SocketAddrV4}
use Rattle.ipx_wire.specs.Ipx.{PacketView}
use Rattle.ipx_wire.specs.declared.address.Node.{Node}
use Rattle.ipx_wire.specs.declared.ipx.fault.IpxFault.{IpxFault}
use Rattle.ipx_wire.specs.declared.ipx.packet.IpxHeader.{IpxHeader}
use Rattle.ipxnet_server.specs.declared.drops.ServerDrop.TheVariants.{Malformed}
use Rattle.ipxnet_server.specs.declared.port.ServerPort.{ServerPort}
use Rattle.ipxnet_server.specs.NotedPlaces.{is_noted, is_noted_at}
use Rattle.ipxnet_server.specs.AskTimes.{first_ask}
use Rattle.ipxnet_server.specs.Pings.{AreInOrder, is_asked}
use Rattle.ipxnet_server.specs.Restarts.{server_noting_again}
use Rattle.ipxnet_server.specs.ServerClients.{are_one_place, client_at, node_of_place}
use Rattle.ipxnet_server.specs.ServerFloods.{packet_gives, server_giving, server_heard}
use Rattle.ipxnet_server.specs.ServerHears.{ServerView, joined_server, server_aged, server_dropping, server_pinging}

-- a call: a datagram from an address that is a packet, in so many bytes; one that is none; a packet of the core for
-- a node; a turn of pings; and an address that was that of a client before a restart. Each is at a time
pub data ServerCall : Type 0 where
  Datagram : SocketAddrV4 → PacketView → ℕ → ℕ → ServerCall
  NoPacket : IpxFault → ℕ → ServerCall
  OfCore : Node → Option IpxHeader → ℕ → ℕ → ServerCall
  Turn : ℕ → ServerCall
  Again : SocketAddrV4 → ℕ → ServerCall

-- the server after a call, as the clauses of `hear`, `give`, `begin_pings` and `note_again` say
abbrev pub server_after : ServerView → ServerCall → ServerView
server_after l (Datagram from p size now) = server_heard l from p size now
server_after l (NoPacket fault now) = server_dropping (Malformed fault) (server_aged now l)
server_after l (OfCore node header size now) =
    server_giving (packet_gives l node header size now) now (server_aged now l)
server_after l (Turn now) = server_pinging now l
server_after l (Again place now) = server_noting_again place now l

abbrev pub server_run : ServerView → List ServerCall → ServerView
server_run l [] = l
server_run l (call ∷ calls) = server_run (server_after l call) calls

-- ---- who is a client

-- a datagram shows the node of an address: it came from there, and has that node as its source
abbrev pub shows_node : ServerPort → SocketAddrV4 → ServerCall → Bool
shows_node port place (Datagram from p size now) =
    are_one_place from place && bytes_eq p.header.from.node.0 (node_of_place port place).0
shows_node port place (NoPacket fault now) = false
shows_node port place (OfCore node header size now) = false
shows_node port place (Turn now) = false
shows_node port place (Again from now) = false

-- after any calls of a new server, who is a client has shown its node
abbrev pub ClientsShowedTheirNodes : Type 0
ClientsShowedTheirNodes = (port : ServerPort) (most : ℕ) (routers : List SocketAddrV4) (calls : List ServerCall) (place : SocketAddrV4)
    → is_some (client_at place (server_run (joined_server port most routers) calls).clients) ≡ true
    → list_any (shows_node port place) calls ≡ true

-- ---- who is asked

abbrev pub time_of : ServerCall → ℕ
time_of (Datagram from p size now) = now
time_of (NoPacket fault now) = now
time_of (OfCore node header size now) = now
time_of (Turn now) = now
time_of (Again place now) = now

-- a call pings an address that is noted: it is a turn, and asks its note
abbrev pub call_asks : SocketAddrV4 → ServerView → ServerCall → Bool
call_asks place l (Datagram from p size now) = false
call_asks place l (NoPacket fault now) = false
call_asks place l (OfCore node header size now) = false
call_asks place l (Turn now) =
    list_any (λ n. is_noted_at place n && is_asked (record { before = l.pinged; now = now }) n)
    (server_pinging now l).noted
call_asks place l (Again from now) = false

-- one of these calls does
abbrev pub run_asks : SocketAddrV4 → ServerView → List ServerCall → Bool
run_asks place l [] = false
run_asks place l (call ∷ calls) = call_asks place l call || run_asks place (server_after l call) calls

-- an address is noted after each of these calls
abbrev pub stays_noted : SocketAddrV4 → ServerView → List ServerCall → Bool
stays_noted place l [] = true
stays_noted place l (call ∷ calls) =
    is_noted place (server_after l call).noted && stays_noted place (server_after l call) calls

-- after any calls of a new server an address registers, and is noted then and after each further call. The first
-- turn that is 5.5 s later pings it, if none did before, whoever registered in its name before or meanwhile. What
-- it sent need not be a registration: it is enough that it is noted then
abbrev pub WhoStaysNotedIsAsked : Type 0
WhoStaysNotedIsAsked = (port : ServerPort) (most : ℕ) (routers : List SocketAddrV4) (earlier later : List ServerCall) (place : SocketAddrV4) (p : PacketView) (size time now : ℕ)
    → AreInOrder (map time_of (earlier ++ Datagram place p size time ∷ []))
    → stays_noted place (server_run (joined_server port most routers) earlier) (Datagram place p size time ∷ later) ≡ true
    → time + first_ask ≤ now
    → run_asks place (server_run (joined_server port most routers) (earlier ++ Datagram place p size time ∷ [])) (later ++ Turn now ∷ []) ≡ true
