-- What ports with ipxnet servers do with what comes from an address, and with packets of their core. Defined
-- by this project; what a server makes of bytes is defined with the server.
use Rattle.std.specs.Prelude.{◌≡◌, ◌≤◌, ◌⊎◌, ℕ, zero, suc, List, [], ◌∷◌, ◌++◌, All, Bool, true, false, Option, Some, None, IfSome, Result, Ok, Err, filter, is_some, length, map, nat_lt, slice_get, slice_set, take, if◌then◌else◌}
use Rattle.std.specs.List.{list_any}
use Rattle.ipx_wire.specs.Assigned.{broadcast_node}
use Rattle.ipx_wire.specs.declared.address.Node.{Node}
use Rattle.ipx_wire.specs.declared.ipx.fault.IpxFault.{IpxFault}
use Rattle.ipx_wire.specs.Ipx.{BeginsWith, IsIpx, PacketView, ipx_fault, packet_of}
use Rattle.ipxnet_server.specs.declared.clients.Client.{Client}
use Rattle.ipxnet_server.specs.declared.drops.ServerDrop.{ServerDrop}
use Rattle.ipxnet_server.specs.declared.drops.ServerDrop.TheVariants.{Malformed}
use Rattle.ipxnet_server.specs.declared.disposition.Disposition.{Disposition}
use Rattle.ipxnet_server.specs.declared.disposition.Disposition.TheVariants.{Dropped}
use Rattle.std.specs.declared.net.socket_addr.SocketAddrV4.{SocketAddrV4}
use Rattle.ipxnet_server.specs.declared.port.ServerPort.{ServerPort}
use Rattle.ipxnet_server.specs.declared.recipients.Recipients.{Recipients}
use Rattle.ipxnet_server.specs.declared.recipients.Recipients.TheVariants.{Nobody}
use Rattle.ipxnet_server.specs.ServerClients.{EachClientOnce, client_at}
use Rattle.ipxnet_server.specs.ServerFloods.{packet_gives, packet_hears, server_giving, server_heard}
use Rattle.ipxnet_server.specs.ServerHears.{IsAnswer, ServerView, answer_of, goes_to_core, is_from_server, is_of_client, is_ping_due, is_taker, is_to_service, router_ping, server_aged, server_dropping, server_pinging, max_client_bytes, takers_join, takers_of, takers_reach}
use Rattle.ipxnet_server.specs.PeerServers.{is_joined_place}
use Rattle.ipxnet_server.specs.Pings.{is_asked, is_pinged}
use Rattle.ipxnet_server.specs.declared.noted.Noted.{Noted}
use Rattle.ipxnet_server.specs.declared.pings.PingTurn.{PingTurn}
use Rattle.ipx_carrier.specs.declared.fault.DeviceFault.{DeviceFault}
use Rattle.ipx_carrier.specs.declared.port_driver.PacketSent.{PacketSent}
use Rattle.ipx_carrier.specs.declared.port_driver.PacketSent.TheVariants.{Unmapped, Transmitted}
use Rattle.ipx_carrier.specs.Counting.{raised}
use Rattle.ipx_carrier.specs.DriverTurns.{SendsEach}
use Rattle.ipx_carrier.specs.Turns.{Given, Ways}
use Rattle.ipx_ipxnet_ports.specs.declared.place_sockets.DatagramCame.{DatagramCame}
use Rattle.ipx_ipxnet_ports.specs.PlaceTraffic.{HandsOver, PlaceDatagram, PlaceTraffic, PlacesPass, datagram_answered, place_datagram}

-- each packet of the core is handed to the server of its port once, unless it is too long for clients. Where
-- it is sent then depends on which clients are known
abbrev pub by_servers : Ways Given
by_servers p = if nat_lt max_client_bytes (length p.bytes) then None else Some (p ∷ [])

-- what no call changes of servers: the port of each, and how many clients it may have
abbrev pub server_ports : List ServerView → List (ServerPort × ℕ)
server_ports servers = map (λ l. (l.port, l.max_clients)) servers

-- the clients that takers reach, in the order in which the server has them
abbrev pub clients_reached : ServerView → Recipients → List Client
clients_reached l takers = filter (λ c. takers_reach l takers c.place) l.clients

-- the same bytes for each of them
abbrev pub relayed_to : ℕ → List ℕ → List Client → List PlaceDatagram
relayed_to port bytes clients = map (λ c. place_datagram port bytes c.place) clients

-- the addresses of joined routers that takers have, in order, and the same bytes for each of these
abbrev pub routers_reached : ServerView → Recipients → List SocketAddrV4
routers_reached l takers = filter (λ r. takers_join l takers r) l.routers

abbrev pub relayed_on : ℕ → List ℕ → List SocketAddrV4 → List PlaceDatagram
relayed_on port bytes routers = map (λ r. place_datagram port bytes r) routers

-- an answer to an address, if there is one
abbrev pub answer_for : ℕ → SocketAddrV4 → Option (List ℕ) → List PlaceDatagram
answer_for port place None = []
answer_for port place (Some answer) = place_datagram port answer place ∷ []

-- what a server sends for bytes that it received, with this answer. The answer goes first, if there is one,
-- to the address that they came from. Then the bytes, as they arrived, go to each of the clients that get
-- them
abbrev pub server_sends : ServerView → Disposition → PlaceDatagram → Option (List ℕ) → List PlaceDatagram
server_sends l heard d answer = answer_for d.port d.place answer
    ++ relayed_to d.port d.bytes (clients_reached l (takers_of heard))

-- what is sent to joined routers: the bytes, as they arrived, to each that gets them
abbrev pub joined_sends : ServerView → Disposition → PlaceDatagram → List PlaceDatagram
joined_sends l heard d = relayed_on d.port d.bytes (routers_reached l (takers_of heard))

-- each of these is for the address of a joined router
abbrev pub AreForRouters : ServerView → List PlaceDatagram → Type 0
AreForRouters l datagrams = All (λ d. is_joined_place d.place l.routers ≡ true) datagrams

-- each of these is for an address where a client is known
abbrev pub AreForClients : ServerView → List PlaceDatagram → Type 0
AreForClients l datagrams = All (λ d. is_some (client_at d.place l.clients) ≡ true) datagrams

-- what a server makes of bytes from an address, and what it is then, if they are no packet, and if they begin
-- with one. A packet finds its sender among the clients, if it makes it one
pub record HearsBytes (l : ServerView) (from : SocketAddrV4) (bytes : List ℕ) (now : ℕ) (heard : Disposition) (after : ServerView) : Type 0 where
  pub malformed : (f : IpxFault) → ipx_fault bytes ≡ Some f → heard ≡ Dropped (Malformed f)
  pub unread : (f : IpxFault) → ipx_fault bytes ≡ Some f
      → after ≡ server_dropping (Malformed f) (server_aged now l)
  pub packet : (p : PacketView) → BeginsWith bytes p → heard ≡ packet_hears l from p (length bytes) now
  pub becomes : (p : PacketView) → BeginsWith bytes p → after ≡ server_heard l from p (length bytes) now
  pub stays : (after.port ≡ l.port) × (after.max_clients ≡ l.max_clients) × (after.routers ≡ l.routers)
      × (after.pinged ≡ l.pinged)

-- bytes that a server received are sent on. All that it sends is handed to the sockets: the answer, if there
-- is one, the bytes for its clients, and then what is for joined routers. Each client has one address, and
-- none that gets the bytes is at their source address
pub record GivesOn (l : ServerView) (heard : Disposition) (d : PlaceDatagram) (came : List PlaceDatagram) (old new : Option PlaceTraffic) (failed failed_after : ℕ) : Type 0 where
  pub answer : Option (List ℕ)
  pub answered : is_some answer ≡ is_some (answer_of heard)
  pub is_it : IfSome answer (λ bytes. IsAnswer heard bytes)
  pub gone : HandsOver (server_sends l heard d answer ++ joined_sends l heard d) came
      old new failed failed_after
  pub once : EachClientOnce l.clients
  pub back : is_taker (takers_of heard) d.place ≡ false

-- the core gets the bytes that are for it, as far as they fit its buffer; otherwise it gets nothing
abbrev pub TakesBytes : Bool → List ℕ → ℕ → List ℕ → Option ℕ → Type 0
TakesBytes gets bytes most room (Some n) = (gets ≡ true) × (take n room ≡ take most bytes)
TakesBytes gets bytes most room None = gets ≡ false

-- the count of what the core did not get
abbrev pub filtered_count : Option ℕ → ℕ → ℕ
filtered_count None kept = raised kept
filtered_count (Some n) kept = kept

-- ports with servers, without their sockets: the servers, how much was kept from the core, what passed
-- through the sockets, and how often those failed
pub record ServersView : Type 0 where
  pub servers : List ServerView
  pub kept : ℕ
  pub traffic : Option PlaceTraffic
  pub failed : ℕ

abbrev pub servers_view : List ServerView → ℕ → Option PlaceTraffic → ℕ → ServersView
servers_view servers kept traffic failed =
    record { servers = servers; kept = kept; traffic = traffic; failed = failed }

-- the size of the buffer that a datagram is received into: more than any that is sent on to clients
abbrev pub datagram_buffer : ℕ
datagram_buffer = 1536

-- what a server sends for bytes that it received was handed to the sockets, in order, as `sends` says of each: its
-- answer, if there is one, the bytes for its clients, and then for joined routers
abbrev pub HandsOn : {S : Type 0} → (S → PlaceDatagram → S → Type 0) → ServerView → Disposition → PlaceDatagram → S → S → Type 0
HandsOn sends l heard d old new = (answer : Option (List ℕ)) × (is_some answer ≡ is_some (answer_of heard))
    × IfSome answer (λ bytes. IsAnswer heard bytes)
    × SendsEach sends (server_sends l heard d answer ++ joined_sends l heard d) old new

-- the same for what the sockets answered, by what the server of its port made of that; nothing if none came
abbrev pub HandsAnswerOn : {S : Type 0} → (S → PlaceDatagram → S → Type 0) → ℕ → List ServerView → List ServerView → Option PlaceDatagram → S → S → Type 0
HandsAnswerOn sends now servers servers_after None old new = new ≡ old
HandsAnswerOn sends now servers servers_after (Some d) old new = (l after : ServerView) × (heard : Disposition)
    × (slice_get servers d.port ≡ Some l) × (servers_after ≡ slice_set servers d.port after)
    × HearsBytes l d.place d.bytes now heard after × HandsOn sends after heard d old new

-- sockets were asked at a port, into a buffer of that size, and `asks` says what came of that. This datagram is
-- what they answered, or none came. Then just what its server sends for it was handed to them
pub record AreAskedForDatagram {S : Type 0} (asks : ℕ → Result (Option DatagramCame) DeviceFault → List ℕ → S → S → Type 0) (sends : S → PlaceDatagram → S → Type 0) (now : ℕ) (servers servers_after : List ServerView) (port : ℕ) (before : S) (came : Option PlaceDatagram) (after : S) : Type 0 where
  pub answer : Result (Option DatagramCame) DeviceFault
  pub buffer : List ℕ
  pub asked : S
  pub asking : asks port answer buffer before asked
  pub size : length buffer ≡ datagram_buffer
  pub answered : came ≡ datagram_answered port buffer answer
  pub onward : HandsAnswerOn sends now servers servers_after came asked after

-- bytes came from an address to the port of a server, and only these. They are answered and sent to clients
-- and joined routers, as the server says, and the core gets them if they are for it. Nothing is sent to an
-- address where no client is known then and no router is joined, except the answer to a registration. What came
-- from a joined router is sent to no joined router. An answer is no longer than what it answers
pub record HearsAtServer (now most : ℕ) (d : PlaceDatagram) (came : List PlaceDatagram) (room : List ℕ) (up : Option ℕ) (old new : ServersView) : Type 0 where
  pub server : ServerView
  pub after : ServerView
  pub heard : Disposition
  pub at_port : slice_get old.servers d.port ≡ Some server
  pub hears : HearsBytes server d.place d.bytes now heard after
  pub onward : GivesOn after heard d came old.traffic new.traffic old.failed new.failed
  pub known : AreForClients after (relayed_to d.port d.bytes (clients_reached after (takers_of heard)))
  pub answers : is_of_client heard ≡ true → is_some (client_at d.place after.clients) ≡ true
  pub joined : AreForRouters after (joined_sends after heard d)
  pub ring : is_joined_place d.place server.routers ≡ true → joined_sends after heard d ≡ []
  pub no_longer : (answer : List ℕ) → IsAnswer heard answer → length answer ≤ length d.bytes
  pub core : TakesBytes (goes_to_core heard) d.bytes most room up
  pub servers : new.servers ≡ slice_set old.servers d.port after
  pub counted : new.kept ≡ filtered_count up old.kept

-- the same for what the sockets answered: a datagram; or that nothing came, or that they failed, which they
-- count
abbrev pub ReceivesAtServer : ℕ → ℕ → Option PlaceDatagram → List ℕ → Option ℕ → ServersView → ServersView → Type 0
ReceivesAtServer now most None room up old new = (up ≡ None) × (new.servers ≡ old.servers)
    × (new.kept ≡ old.kept) × PlacesPass old.traffic new.traffic [] []
    × ((new.failed ≡ old.failed) ⊎ (new.failed ≡ raised old.failed))
ReceivesAtServer now most (Some d) room up old new =
    HearsAtServer now most d (d ∷ []) room up old new

-- the clients and joined routers that a packet of the core goes to
abbrev pub takers_given : Result Recipients ServerDrop → Recipients
takers_given (Ok takers) = takers
takers_given (Err drop) = Nobody

-- what `send` returns for a packet of `size` bytes
abbrev pub packet_said : ℕ → PacketSent
packet_said size = if nat_lt max_client_bytes size then Unmapped else Transmitted 1

-- what is sent to the addresses that get the packet, clients first
abbrev pub packet_sends : ℕ → List ℕ → ServerView → Recipients → List PlaceDatagram
packet_sends port packet l takers = relayed_to port packet (clients_reached l takers)
    ++ relayed_on port packet (routers_reached l takers)

-- who gets bytes of the core for a node, if they are no packet, and if they begin with one
pub record GivesBytes (l : ServerView) (node : Node) (bytes : List ℕ) (now : ℕ) (given : Result Recipients ServerDrop) : Type 0 where
  pub malformed : (f : IpxFault) → ipx_fault bytes ≡ Some f
      → given ≡ packet_gives l node None (length bytes) now
  pub packet : (p : PacketView) → BeginsWith bytes p
      → given ≡ packet_gives l node (Some p.header) (length bytes) now

-- a packet of the core for a node is sent, as it is, to each of the clients that the server of its port says.
-- Each of these has one address. It is also sent to each of the joined routers. What the server refuses is
-- counted there. A packet to all nodes at the socket of RIP or SAP is sent to nobody, and one that comes from
-- the network of the port to no joined router
pub record SendsThroughServer (now port : ℕ) (node : Node) (packet : List ℕ) (sent : PacketSent) (old new : ServersView) : Type 0 where
  pub server : ServerView
  pub after : ServerView
  pub given : Result Recipients ServerDrop
  pub at_port : slice_get old.servers port ≡ Some server
  pub gives : GivesBytes server node packet now given
  pub becomes : after ≡ server_giving given now (server_aged now server)
  pub gone : HandsOver (packet_sends port packet after (takers_given given)) []
      old.traffic new.traffic old.failed new.failed
  pub quiet : (p : PacketView) → BeginsWith packet p → is_to_service p.header ≡ true
      → node.0 ≡ broadcast_node → packet_sends port packet after (takers_given given) ≡ []
  pub own : (p : PacketView) → BeginsWith packet p → is_from_server server.port p.header ≡ true
      → relayed_on port packet (routers_reached after (takers_given given)) ≡ []
  pub once : EachClientOnce after.clients
  pub known : AreForClients after (relayed_to port packet (clients_reached after (takers_given given)))
  pub joined : AreForRouters after (relayed_on port packet (routers_reached after (takers_given given)))
  pub said : sent ≡ packet_said (length packet)
  pub servers : new.servers ≡ slice_set old.servers port after
  pub counted : new.kept ≡ old.kept

-- such a packet was handed to the sockets, for each of these addresses, as `sends` says of each
abbrev pub HandsPacket : {S : Type 0} → (S → PlaceDatagram → S → Type 0) → ℕ → List ServerView → Given → S → S → Type 0
HandsPacket sends now servers p old new = (l : ServerView) × (given : Result Recipients ServerDrop)
    × (slice_get servers p.port ≡ Some l) × GivesBytes l p.node p.bytes now given
    × SendsEach sends (packet_sends p.port p.bytes (server_giving given now (server_aged now l)) (takers_given given)) old new

-- the clients that a turn pings, in the order in which the server has them
abbrev pub clients_pinged : PingTurn → ServerView → List Client
clients_pinged turn l = filter (is_pinged turn) l.clients

-- the addresses that registered and that a turn pings, in the order in which they did, and the same bytes for
-- each of these
abbrev pub noted_asked : PingTurn → ServerView → List Noted
noted_asked turn l = filter (is_asked turn) l.noted

abbrev pub sent_to_noted : ℕ → List ℕ → List Noted → List PlaceDatagram
sent_to_noted port bytes noted = map (λ n. place_datagram port bytes n.place) noted

-- what a turn of pings sends
abbrev pub pings_sent : ℕ → List ℕ → PingTurn → ServerView → List PlaceDatagram
pings_sent port ping turn l = relayed_to port ping (clients_pinged turn l)
    ++ sent_to_noted port ping (noted_asked turn l)

-- the server of a port pings its silent clients, and who registered and has shown nothing: the ping of its router
-- is handed to the sockets for each of them, and for nobody else
pub record PingsAtServer (now port : ℕ) (old new : ServersView) : Type 0 where
  pub server : ServerView
  pub after : ServerView
  pub ping : List ℕ
  pub at_port : slice_get old.servers port ≡ Some server
  pub becomes : after ≡ server_pinging now server
  pub is_ping : IsIpx (packet_of (router_ping server.port) []) ping []
  pub gone : HandsOver (pings_sent port ping (record { before = server.pinged; now = now }) after) []
      old.traffic new.traffic old.failed new.failed
  pub once : EachClientOnce after.clients
  pub servers : new.servers ≡ slice_set old.servers port after
  pub counted : new.kept ≡ old.kept

-- the servers of the first ports do so, in order
abbrev pub PingsAtServers : ℕ → ℕ → ServersView → ServersView → Type 0
PingsAtServers now zero old new = new ≡ old
PingsAtServers now (suc n) old new =
    (mid : ServersView) × PingsAtServers now n old mid × PingsAtServer now n mid new

-- the same of each server, by which just its pings were handed to the sockets, as `sends` says of each
abbrev pub HandsPings : {S : Type 0} → (S → PlaceDatagram → S → Type 0) → ℕ → List ServerView → ℕ → S → S → Type 0
HandsPings sends now servers port old new = (l : ServerView) × (ping : List ℕ) × (slice_get servers port ≡ Some l)
    × IsIpx (packet_of (router_ping l.port) []) ping []
    × SendsEach sends (pings_sent port ping (record { before = l.pinged; now = now }) (server_pinging now l)) old new

abbrev pub PingsThroughSockets : {S : Type 0} → (S → PlaceDatagram → S → Type 0) → ℕ → ℕ → ServersView → ServersView → S → S → Type 0
PingsThroughSockets sends now zero old new before after = (new ≡ old) × (after ≡ before)
PingsThroughSockets {S} sends now (suc n) old new before after = (mid : ServersView) × (between : S)
    × PingsThroughSockets sends now n old mid before between × PingsAtServer now n mid new
    × HandsPings sends now mid.servers n between after

-- a turn at this time pings somebody at one of these servers
abbrev pub is_any_pinged : List ServerView → ℕ → Bool
is_any_pinged servers now = list_any (λ l. is_ping_due l now) servers
