-- What a server sends to an address that has shown no node. Defined by this project.
use Rattle.std.specs.Prelude.{◌≡◌, ◌≤◌, ℕ, ◌+◌, ◌*◌, List, [], ◌∷◌, Bool, false, ◌&&◌, ◌||◌, count_by, is_some, map, Result, Ok, Err, if◌then◌else◌}
use Rattle.std.specs.List.{list_any}
use Rattle.std.specs.declared.net.socket_addr.SocketAddrV4.{SocketAddrV4}
use Rattle.ipxnet_server.specs.declared.drops.ServerDrop.{ServerDrop}
use Rattle.ipxnet_server.specs.declared.port.ServerPort.{ServerPort}
use Rattle.ipxnet_server.specs.declared.recipients.Recipients.{Recipients}
use Rattle.ipxnet_server.specs.NotedPlaces.{is_noted_at}
use Rattle.ipxnet_server.specs.PeerServers.{is_joined_place}
use Rattle.ipxnet_server.specs.Pings.{AreInOrder, is_asked, is_pinged}
use Rattle.ipxnet_server.specs.ServerClients.{are_one_place, is_client_at}
use Rattle.ipxnet_server.specs.ServerFloods.{packet_gives, packet_hears, server_giving, server_heard}
use Rattle.ipxnet_server.specs.ServerHears.{ServerView, answer_of, is_registration, joined_server, server_aged, server_pinging, takers_join, takers_of, takers_reach}
use Rattle.ipxnet_server.specs.ServerRuns.{Again, Datagram, NoPacket, OfCore, ServerCall, Turn, server_after, shows_node, time_of}

abbrev pub one_if : Bool → ℕ
one_if b = if b then 1 else 0

-- bytes for these go to an address: as that of a client, or as that of a joined router
abbrev pub reaches_place : ServerView → Recipients → SocketAddrV4 → Bool
reaches_place l takers place = takers_reach l takers place || takers_join l takers place

abbrev pub given_to_place : ServerView → Result Recipients ServerDrop → SocketAddrV4 → Bool
given_to_place l (Ok takers) place = reaches_place l takers place
given_to_place l (Err drop) place = false

-- how many datagrams a call sends to an address: an answer, what is for it, and pings
abbrev pub sent_to : SocketAddrV4 → ServerView → ServerCall → ℕ
sent_to place l (Datagram from p size now) =
    one_if (are_one_place from place && is_some (answer_of (packet_hears l from p size now)))
    + one_if (reaches_place (server_heard l from p size now) (takers_of (packet_hears l from p size now)) place)
sent_to place l (NoPacket fault now) = 0
sent_to place l (OfCore node header size now) =
    one_if (given_to_place (server_giving (packet_gives l node header size now) now (server_aged now l)) (packet_gives l node header size now) place)
sent_to place l (Again from now) = 0
sent_to place l (Turn now) =
    count_by (λ c. is_client_at place c && is_pinged (record { before = l.pinged; now = now }) c) (server_pinging now l).clients
    + count_by (λ n. is_noted_at place n && is_asked (record { before = l.pinged; now = now }) n) (server_pinging now l).noted

abbrev pub all_sent_to : SocketAddrV4 → ServerView → List ServerCall → ℕ
all_sent_to place l [] = 0
all_sent_to place l (call ∷ calls) = sent_to place l call + all_sent_to place (server_after l call) calls

-- a call is a registration from an address, or says that it was that of a client before a restart
abbrev pub registers_from : SocketAddrV4 → ServerCall → Bool
registers_from place (Datagram from p size now) = are_one_place from place && is_registration p.header size
registers_from place (NoPacket fault now) = false
registers_from place (OfCore node header size now) = false
registers_from place (Turn now) = false
registers_from place (Again from now) = false

abbrev pub is_again_at : SocketAddrV4 → ServerCall → Bool
is_again_at place (Datagram from p size now) = false
is_again_at place (NoPacket fault now) = false
is_again_at place (OfCore node header size now) = false
is_again_at place (Turn now) = false
is_again_at place (Again from now) = are_one_place from place

abbrev pub registrations_from : SocketAddrV4 → List ServerCall → ℕ
registrations_from place [] = 0
registrations_from place (call ∷ calls) = one_if (registers_from place call) + registrations_from place calls

abbrev pub times_again : SocketAddrV4 → List ServerCall → ℕ
times_again place [] = 0
times_again place (call ∷ calls) = one_if (is_again_at place call) + times_again place calls

-- in any calls of a new server, in the order of their times, an address from which no datagram shows its node gets
-- at most three datagrams for each registration from there, whoever forged these, and two for each time that it is
-- noted again after a restart
abbrev pub WhoShowsNothingGetsLittle : Type 0
WhoShowsNothingGetsLittle = (port : ServerPort) (most : ℕ) (routers : List SocketAddrV4) (calls : List ServerCall) (place : SocketAddrV4)
    → AreInOrder (map time_of calls) → list_any (shows_node port place) calls ≡ false → is_joined_place place routers ≡ false
    → all_sent_to place (joined_server port most routers) calls ≤ 3 * registrations_from place calls + 2 * times_again place calls
