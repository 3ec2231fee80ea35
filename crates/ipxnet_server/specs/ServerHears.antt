-- What an ipxnet server does with a datagram, and with a packet of its router. Registration and ping are
-- those of DOSBox 0.74-3, with its socket and layout. The order of the cases, what is dropped, and all that
-- joined routers do, is defined by this project.
use Rattle.std.specs.Prelude.{◌≡◌, ℕ, List, [], length, replicate, Bool, true, false, not, ◌==◌, ◌&&◌, ◌||◌, nat_le, nat_lt, find, is_some, Option, Some, None, Result, Ok, Err, if◌then◌else◌}
use Rattle.std.specs.Str.{bytes_eq}
use Rattle.ipx_wire.specs.Assigned.{broadcast_node, ipx_header_size, local_network, rip_socket, sap_socket, unknown_type}
use Rattle.ipx_wire.specs.Ipx.{IsIpx, PacketView, number, packet_of}
use Rattle.ipx_wire.specs.declared.address.Network.{Network}
use Rattle.ipx_wire.specs.declared.address.Node.{Node}
use Rattle.ipx_wire.specs.declared.ipx.packet.IpxHeader.{IpxHeader}
use Rattle.std.specs.declared.net.socket_addr.SocketAddrV4.{SocketAddrV4}
use Rattle.ipxnet_server.specs.declared.clients.Client.{Client}
use Rattle.ipxnet_server.specs.declared.counts.ServerCounts.{ServerCounts}
use Rattle.ipxnet_server.specs.declared.drops.ServerDrop.{ServerDrop}
use Rattle.ipxnet_server.specs.declared.drops.ServerDrop.TheVariants.{NodeTaken, FullOfAddress, Full, Unregistered, OtherSource, TooLong, NoSuchNode, ToItself, PingElsewhere, BroadcastElsewhere, FromElsewhere, Response, NotBehind, ForElsewhere}
use Rattle.ipxnet_server.specs.declared.disposition.Disposition.{Disposition}
use Rattle.ipxnet_server.specs.declared.disposition.Disposition.TheVariants.{Registered, Pinged, ToClient, ToOthers, ToOthersAndCore, ToCore, PingAnswered, ToJoined, FromJoined, Dropped}
use Rattle.ipxnet_server.specs.declared.recipients.Recipients.{Recipients}
use Rattle.ipxnet_server.specs.declared.recipients.Recipients.TheVariants.{Nobody, One, Others, All, Here, Joined, JoinedAt}
use Rattle.ipxnet_server.specs.declared.peer_servers.RemoteClient.{RemoteClient}
use Rattle.ipxnet_server.specs.declared.flooders.Flooder.{Flooder}
use Rattle.ipxnet_server.specs.declared.limiting.LimitedFlood.{LimitedFlood}
use Rattle.ipxnet_server.specs.declared.noted.Noted.{Noted}
use Rattle.ipxnet_server.specs.declared.port.ServerPort.{ServerPort}
use Rattle.token_bucket.specs.declared.bucket.RateLimit.{RateLimit}
use Rattle.token_bucket.specs.declared.bucket.TokenBucket.{TokenBucket}
use Rattle.token_bucket.specs.TokenBucket.{full_bucket}
use Rattle.ipxnet_server.specs.ServerClients.{are_one_place, is_client_of_ip, is_address_full, is_server_full, client_at, client_of_node, clients_heard, clients_left, clients_with, node_of_place}
use Rattle.ipxnet_server.specs.ServerCounted.{drop_counted, no_drops}
use Rattle.ipxnet_server.specs.PeerServers.{remote_client_of, remote_clients_but, remote_clients_heard, remote_clients_left, is_joined_place}
use Rattle.ipxnet_server.specs.Pings.{is_one_asked, is_one_pinged}
use Rattle.ipxnet_server.specs.Attempts.{AttemptsView, attempts_after, no_repeats}
use Rattle.ipxnet_server.specs.NotedPlaces.{noted_left, noted_without, places_noted}

-- a server: its port, the most clients that it may have, its clients in the order in which they were last
-- heard, and its counts. Also the addresses of joined routers, and their clients, when its clients were pinged
-- the last time, who registered, has shown nothing yet, and is still to be pinged, and which IP addresses register
-- again and again. Then the tokens for what is for all: the clients that miss some of theirs, those of the port,
-- and which client was limited last
pub record ServerView : Type 0 where
  pub port : ServerPort
  pub max_clients : ℕ
  pub clients : List Client
  pub counts : ServerCounts
  pub routers : List SocketAddrV4
  pub far : List RemoteClient
  pub pinged : ℕ
  pub noted : List Noted
  pub attempts : AttemptsView
  pub flooders : List Flooder
  pub copies : TokenBucket
  pub limited : Option LimitedFlood

-- the socket of registrations and pings, and the most bytes that a client accepts
abbrev pub server_socket : ℕ
server_socket = 2

abbrev pub max_client_bytes : ℕ
max_client_bytes = 1424

-- ---- answers: a header of 30 bytes, and no body

abbrev pub server_header : Network → Node → Node → IpxHeader
server_header network to from = record {
  hops = 0;
  kind = unknown_type;
  to = record { network = network; node = to; socket = record { 0 = server_socket } };
  from = record { network = network; node = from; socket = record { 0 = server_socket } };
}

-- to a registration: it tells the client its network and node
abbrev pub registration_answer : ServerPort → Node → IpxHeader
registration_answer port node = server_header port.network node port.own

-- to a ping from a node
abbrev pub ping_answer : ServerPort → Node → IpxHeader
ping_answer port node = server_header (record { 0 = local_network }) node port.own

-- what a silent client is sent: a ping from the router
abbrev pub router_ping : ServerPort → IpxHeader
router_ping port =
    server_header (record { 0 = local_network }) (record { 0 = broadcast_node }) port.own

-- ---- what a packet is

abbrev pub is_to_all_nodes : IpxHeader → Bool
is_to_all_nodes h = bytes_eq h.to.node.0 broadcast_node

-- it is alone in a datagram of 30 bytes, from node 0 to node 0
abbrev pub is_registration : IpxHeader → ℕ → Bool
is_registration h size = (size == ipx_header_size) && bytes_eq h.to.node.0 (replicate 6 0)
    && bytes_eq h.from.node.0 (replicate 6 0) && (h.to.socket.0 == server_socket)

-- it is for the network of the port
abbrev pub is_for_server : ServerPort → IpxHeader → Bool
is_for_server port h = (h.to.network.0 == local_network) || (h.to.network.0 == port.network.0)

-- it is for a service of the router
abbrev pub is_to_service : IpxHeader → Bool
is_to_service h = (h.to.socket.0 == rip_socket) || (h.to.socket.0 == sap_socket)

-- it comes from the network of the port
abbrev pub is_from_server : ServerPort → IpxHeader → Bool
is_from_server port h = (h.from.network.0 == local_network) || (h.from.network.0 == port.network.0)

-- one of its sockets is this one
abbrev pub has_socket : ℕ → IpxHeader → Bool
has_socket socket h = (h.to.socket.0 == socket) || (h.from.socket.0 == socket)

-- it advertises routes (RIP) or services (SAP): a response, by its socket and operation
abbrev pub tells_router : PacketView → Bool
tells_router p = nat_le 2 (length p.body)
    && ((has_socket rip_socket p.header && number 2 0 p.body == 2)
    || (has_socket sap_socket p.header && (number 2 0 p.body == 2 || number 2 0 p.body == 4)))

-- the core may get it from a client: it comes from their network, and advertises nothing
abbrev pub may_reach_core : ServerPort → PacketView → Bool
may_reach_core port p = is_from_server port p.header && not (tells_router p)

-- ---- what becomes of it: the first case that applies

-- the node is the router's, the broadcast node or a client's: no new client can have it. A node that a joined router
-- said to be there is free: it is that of an address here only by chance, or if somebody forged what that router sent
abbrev pub is_node_here : ServerPort → List Client → Node → Bool
is_node_here port known node = bytes_eq node.0 port.own.0 || bytes_eq node.0 broadcast_node
    || is_some (client_of_node node known)

-- why a registration is refused, from an address where no client is known
abbrev pub registration_drop : ServerView → SocketAddrV4 → ℕ → Option ServerDrop
registration_drop l from now =
    if is_node_here l.port l.clients (node_of_place l.port from) then Some (NodeTaken (node_of_place l.port from))
    else if is_address_full now from l.clients then Some FullOfAddress
    else if is_server_full l.max_clients now l.clients then Some Full
    else None

abbrev pub new_client_hears : ServerPort → Node → Option ServerDrop → Disposition
new_client_hears port node None = Registered (registration_answer port node)
new_client_hears port node (Some drop) = Dropped drop

-- a registration, from an address where this client is known
abbrev pub registration_hears : ServerView → SocketAddrV4 → ℕ → Option Client → Disposition
registration_hears l from now None =
    new_client_hears l.port (node_of_place l.port from) (registration_drop l from now)
registration_hears l from now (Some c) = Registered (registration_answer l.port c.node)

-- to all nodes here
abbrev pub all_hear : ServerPort → SocketAddrV4 → PacketView → ℕ → Disposition
all_hear port from p size =
    if nat_lt max_client_bytes size then Dropped (TooLong size)
    else if p.header.to.socket.0 == server_socket then Pinged from (ping_answer port p.header.from.node)
    else if is_to_service p.header && may_reach_core port p then ToOthersAndCore from
    else ToOthers from

-- to the core alone
abbrev pub core_hears : ServerPort → PacketView → Disposition
core_hears port p =
    if not (is_from_server port p.header) then Dropped (FromElsewhere p.header.from.network)
    else if tells_router p then Dropped Response
    else ToCore

-- to the router's node. What answers its pings is for nobody
abbrev pub router_hears : ServerPort → PacketView → Disposition
router_hears port p = if p.header.to.socket.0 == server_socket then PingAnswered else core_hears port p

-- to the joined router where a node is known, otherwise to each
abbrev pub joined_takers : Option RemoteClient → Recipients
joined_takers None = Joined
joined_takers (Some f) = JoinedAt f.router

-- to one node here that no client has
abbrev pub hear_remote : ServerView → Node → ℕ → Disposition
hear_remote l node size =
    if length l.routers == 0 then Dropped (NoSuchNode node)
    else if nat_lt max_client_bytes size then Dropped (TooLong size)
    else ToJoined (joined_takers (remote_client_of node l.far))

-- to one node here, which this client has
abbrev pub client_hears : ServerView → SocketAddrV4 → IpxHeader → ℕ → Option Client → Disposition
client_hears l from h size None = hear_remote l h.to.node size
client_hears l from h size (Some c) =
    if are_one_place c.place from then Dropped ToItself
    else if nat_lt max_client_bytes size then Dropped (TooLong size)
    else ToClient c.place

-- to the network of the port
abbrev pub server_hears_here : ServerView → SocketAddrV4 → PacketView → ℕ → Disposition
server_hears_here l from p size =
    if is_to_all_nodes p.header then all_hear l.port from p size
    else if bytes_eq p.header.to.node.0 l.port.own.0 then router_hears l.port p
    else client_hears l from p.header size (client_of_node p.header.to.node l.clients)

-- to another network
abbrev pub server_hears_elsewhere : ServerPort → PacketView → Disposition
server_hears_elsewhere port p =
    if p.header.to.socket.0 == server_socket then Dropped (PingElsewhere p.header.to.network)
    else if is_to_all_nodes p.header then Dropped (BroadcastElsewhere p.header.to.network)
    else core_hears port p

-- from an address where no client is known: why the packet makes its sender none. It is from another node than
-- a registration from there is given, or that would be refused
abbrev pub stranger_drop : ServerView → SocketAddrV4 → IpxHeader → ℕ → Option ServerDrop
stranger_drop l from h now =
    if bytes_eq h.from.node.0 (node_of_place l.port from).0 then registration_drop l from now
    else Some Unregistered

abbrev pub stranger_hears : Option ServerDrop → Disposition
stranger_hears None = Dropped Unregistered
stranger_hears (Some drop) = Dropped drop

-- from an address where this client is known
abbrev pub server_hears_from : ServerView → SocketAddrV4 → PacketView → ℕ → ℕ → Option Client → Disposition
server_hears_from l from p size now None = stranger_hears (stranger_drop l from p.header now)
server_hears_from l from p size now (Some c) =
    if not (bytes_eq p.header.from.node.0 c.node.0) then Dropped (OtherSource p.header.from.node)
    else if is_for_server l.port p.header then server_hears_here l from p size
    else server_hears_elsewhere l.port p

-- no client of a joined router can have this node: 0, or one of those above
abbrev pub is_not_behind : ServerPort → List Client → Node → Bool
is_not_behind port known node =
    bytes_eq node.0 (replicate 6 0) || is_node_here port known node

-- the node of a remote client that a joined router's packet is from; none if it comes from another network
abbrev pub remote_source : ServerPort → IpxHeader → Option Node
remote_source port h = if is_from_server port h then Some h.from.node else None

-- from a joined router to one node, which this client has
abbrev pub one_hears_joined : ServerPort → SocketAddrV4 → IpxHeader → ℕ → Option Client → Disposition
one_hears_joined port from h size None = Dropped (NoSuchNode h.to.node)
one_hears_joined port from h size (Some c) =
    if are_one_place c.place from then Dropped ToItself
    else if nat_lt max_client_bytes size then Dropped (TooLong size)
    else FromJoined (remote_source port h) (One c.place)

-- from a joined router to all nodes
abbrev pub all_hear_joined : ServerPort → SocketAddrV4 → IpxHeader → ℕ → Disposition
all_hear_joined port from h size =
    if nat_lt max_client_bytes size then Dropped (TooLong size)
    else FromJoined (remote_source port h) (Here from)

-- from the address of a joined router: neither the core nor any joined router gets it
abbrev pub joined_hears : ServerView → SocketAddrV4 → IpxHeader → ℕ → Disposition
joined_hears l from h size =
    if not (is_for_server l.port h) then Dropped (ForElsewhere h.to.network)
    else if is_from_server l.port h && is_not_behind l.port l.clients h.from.node
    then Dropped (NotBehind h.from.node)
    else if is_to_all_nodes h then all_hear_joined l.port from h size
    else one_hears_joined l.port from h size (client_of_node h.to.node l.clients)

-- a packet, in a datagram of `size` bytes from an address
abbrev pub server_hears : ServerView → SocketAddrV4 → PacketView → ℕ → ℕ → Disposition
server_hears l from p size now =
    if is_joined_place from l.routers then joined_hears l from p.header size
    else if is_registration p.header size
    then registration_hears l from now (client_at from l.clients)
    else server_hears_from l from p size now (client_at from l.clients)

-- ---- where it is sent

-- the clients and joined routers that get the bytes as they arrived
abbrev pub takers_of : Disposition → Recipients
takers_of (Registered answer) = Nobody
takers_of (Pinged from answer) = Others from
takers_of (ToClient place) = One place
takers_of (ToOthers from) = Others from
takers_of (ToOthersAndCore from) = Others from
takers_of ToCore = Nobody
takers_of PingAnswered = Nobody
takers_of (ToJoined takers) = takers
takers_of (FromJoined told takers) = takers
takers_of (Dropped drop) = Nobody

abbrev pub is_taker : Recipients → SocketAddrV4 → Bool
is_taker Nobody place = false
is_taker (One one) place = are_one_place one place
is_taker (Others from) place = not (are_one_place from place)
is_taker All place = true
is_taker (Here from) place = not (are_one_place from place)
is_taker Joined place = false
is_taker (JoinedAt one) place = false

-- the same for a joined router: it gets what a client sent to all nodes, or to a node that no client has
abbrev pub is_joined_taker : Recipients → SocketAddrV4 → Bool
is_joined_taker Nobody place = false
is_joined_taker (One one) place = false
is_joined_taker (Others from) place = true
is_joined_taker All place = false
is_joined_taker (Here from) place = false
is_joined_taker Joined place = true
is_joined_taker (JoinedAt one) place = are_one_place one place

-- the takers have the client at an address: there is one, and it is among them
abbrev pub takers_reach : ServerView → Recipients → SocketAddrV4 → Bool
takers_reach l takers place = is_some (client_at place l.clients) && is_taker takers place

-- the takers have the joined router at an address
abbrev pub takers_join : ServerView → Recipients → SocketAddrV4 → Bool
takers_join l takers place = is_joined_place place l.routers && is_joined_taker takers place

-- the core gets the bytes
abbrev pub goes_to_core : Disposition → Bool
goes_to_core (Registered answer) = false
goes_to_core (Pinged from answer) = false
goes_to_core (ToClient place) = false
goes_to_core (ToOthers from) = false
goes_to_core (ToOthersAndCore from) = true
goes_to_core ToCore = true
goes_to_core PingAnswered = false
goes_to_core (ToJoined takers) = false
goes_to_core (FromJoined told takers) = false
goes_to_core (Dropped drop) = false

-- the answer that goes back to the source address
abbrev pub answer_of : Disposition → Option IpxHeader
answer_of (Registered answer) = Some answer
answer_of (Pinged from answer) = Some answer
answer_of (ToClient place) = None
answer_of (ToOthers from) = None
answer_of (ToOthersAndCore from) = None
answer_of ToCore = None
answer_of PingAnswered = None
answer_of (ToJoined takers) = None
answer_of (FromJoined told takers) = None
answer_of (Dropped drop) = None

-- a client sent the bytes
abbrev pub is_of_client : Disposition → Bool
is_of_client (Registered answer) = false
is_of_client (Pinged from answer) = true
is_of_client (ToClient place) = true
is_of_client (ToOthers from) = true
is_of_client (ToOthersAndCore from) = true
is_of_client ToCore = true
is_of_client PingAnswered = true
is_of_client (ToJoined takers) = true
is_of_client (FromJoined told takers) = false
is_of_client (Dropped drop) = false

-- a joined router sent the bytes
abbrev pub is_of_joined : Disposition → Bool
is_of_joined (Registered answer) = false
is_of_joined (Pinged from answer) = false
is_of_joined (ToClient place) = false
is_of_joined (ToOthers from) = false
is_of_joined (ToOthersAndCore from) = false
is_of_joined ToCore = false
is_of_joined PingAnswered = false
is_of_joined (ToJoined takers) = false
is_of_joined (FromJoined told takers) = true
is_of_joined (Dropped drop) = false

-- the bytes are that answer, and nothing else
abbrev pub IsAnswer : Disposition → List ℕ → Type 0
IsAnswer heard bytes = (h : IpxHeader) × (answer_of heard ≡ Some h) × IsIpx (packet_of h []) bytes []

-- who gets a packet of the core for all nodes: each client here, as for a broadcast from another network, and
-- no joined router. If it is for a service of a router, nobody does, because no client listens to that
abbrev pub all_get : Bool → Recipients
all_get to_service = if to_service then Nobody else All

-- a packet of the core, by its header, is for a service of a router, or comes from the network of the port.
-- Bytes that are no packet have no header, and are neither
abbrev pub is_given_to_service : Option IpxHeader → Bool
is_given_to_service None = false
is_given_to_service (Some h) = is_to_service h

abbrev pub is_given_from_server : ServerPort → Option IpxHeader → Bool
is_given_from_server port None = false
is_given_from_server port (Some h) = is_from_server port h

-- who gets a packet of the core for one node. One that comes from the network of the port goes to no joined
-- router: there it would be taken for a packet of a client here
abbrev pub client_gets : ServerView → Node → Bool → Option Client → Result Recipients ServerDrop
client_gets l node from_here None =
    if length l.routers == 0 || from_here then Err (NoSuchNode node)
    else Ok (joined_takers (remote_client_of node l.far))
client_gets l node from_here (Some c) = Ok (One c.place)

-- who gets a packet of the core for a node, of `size` bytes with this header
abbrev pub server_gives : ServerView → Node → Option IpxHeader → ℕ → Result Recipients ServerDrop
server_gives l node header size =
    if nat_lt max_client_bytes size then Err (TooLong size)
    else if bytes_eq node.0 broadcast_node then Ok (all_get (is_given_to_service header))
    else client_gets l node (is_given_from_server l.port header) (client_of_node node l.clients)

-- ---- the server after that

-- clients that were silent for five minutes are forgotten, those of joined routers after a day, and who showed
-- nothing once the turn of its second ping has been
abbrev pub server_aged : ℕ → ServerView → ServerView
server_aged now l = record l {
  clients = clients_left now l.clients;
  far = remote_clients_left now l.far;
  noted = noted_left l.pinged l.noted;
}

-- one more was dropped, and nothing else changes
abbrev pub server_dropping : ServerDrop → ServerView → ServerView
server_dropping drop l = record l { counts = drop_counted drop l.counts }

-- the client at an address was heard
abbrev pub server_knowing : SocketAddrV4 → ℕ → ServerView → ServerView
server_knowing from now l = record l { clients = clients_heard from now l.clients }

-- an address registered. If no client is known there it is noted, if it is not noted yet. If nobody of its IP
-- address is a client, it is remembered how often it does that. Nothing else changes
abbrev pub attempts_noted : SocketAddrV4 → ℕ → ServerView → AttemptsView
attempts_noted from now l =
    if is_some (find (is_client_of_ip from) l.clients) then l.attempts else attempts_after from now l.attempts

abbrev pub server_noting : SocketAddrV4 → ℕ → ServerView → ServerView
server_noting from now l =
    if is_some (client_at from l.clients) then l
    else record l { noted = places_noted from now l.noted; attempts = attempts_noted from now l }

-- who sent from an address became a client, by the node of that. So the node is at no joined router
abbrev pub server_admitting : SocketAddrV4 → ℕ → ServerView → ServerView
server_admitting from now l = record l {
  clients = clients_with l.max_clients (node_of_place l.port from) from now l.clients;
  far = remote_clients_but (node_of_place l.port from) l.far;
  noted = noted_without from l.noted;
}

-- a packet makes its sender a client: it is no registration, from an address where no client is known and no
-- router is joined, and has the node that a registration from there is given, which would not be refused
abbrev pub makes_client : ServerView → SocketAddrV4 → IpxHeader → ℕ → ℕ → Bool
makes_client l from h size now = not (is_joined_place from l.routers) && not (is_registration h size)
    && not (is_some (client_at from l.clients)) && not (is_some (stranger_drop l from h now))

-- the server that a packet finds: with its sender among the clients, if it makes it one
abbrev pub server_met : SocketAddrV4 → IpxHeader → ℕ → ℕ → ServerView → ServerView
server_met from h size now l =
    if makes_client l from h size now then server_admitting from now l else l

-- the joined router at an address showed where a node is, or nothing
abbrev pub server_learned : Option Node → SocketAddrV4 → ℕ → ServerView → ServerView
server_learned None from now l = l
server_learned (Some node) from now l = record l { far = remote_clients_heard node from now l.far }

abbrev pub server_hearing : Disposition → SocketAddrV4 → ℕ → ServerView → ServerView
server_hearing (Registered answer) from now l = server_noting from now l
server_hearing (Pinged giver answer) from now l = server_knowing from now l
server_hearing (ToClient place) from now l = server_knowing from now l
server_hearing (ToOthers giver) from now l = server_knowing from now l
server_hearing (ToOthersAndCore giver) from now l = server_knowing from now l
server_hearing ToCore from now l = server_knowing from now l
server_hearing PingAnswered from now l = server_knowing from now l
server_hearing (ToJoined takers) from now l = server_knowing from now l
server_hearing (FromJoined told takers) from now l = server_learned told from now l
server_hearing (Dropped drop) from now l = server_dropping drop l

-- silent clients are pinged
abbrev pub server_pinging : ℕ → ServerView → ServerView
server_pinging now l = record (server_aged now l) { pinged = now }

-- who sent from an address is a client, and was none before. Its node is known at no joined router any more
pub record BecameClient (from : SocketAddrV4) (old new : ServerView) : Type 0 where
  pub was : client_at from old.clients ≡ None
  pub is : is_some (client_at from new.clients) ≡ true
  pub far : new.far ≡ remote_clients_but (node_of_place old.port from) old.far

-- a turn at this time pings somebody, after the one before
abbrev pub is_ping_due : ServerView → ℕ → Bool
is_ping_due l now = is_one_pinged l.pinged l.clients now || is_one_asked l.pinged l.noted now

-- what passes of the copies of all floods of a port
abbrev pub copies_limit : RateLimit
copies_limit = record { burst = 200000; per_second = 100000 }

-- no client is known yet, and all tokens are there
abbrev pub joined_server : ServerPort → ℕ → List SocketAddrV4 → ServerView
joined_server port most routers = record {
  port = port;
  max_clients = most;
  clients = [];
  counts = no_drops;
  routers = routers;
  far = [];
  pinged = 0;
  noted = [];
  attempts = record { recent = []; repeats = no_repeats };
  flooders = [];
  copies = full_bucket copies_limit;
  limited = None;
}

abbrev pub new_server : ServerPort → ℕ → ServerView
new_server port most = joined_server port most []
