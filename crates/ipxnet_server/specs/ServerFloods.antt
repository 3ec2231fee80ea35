-- How often an ipxnet server passes on what is for all nodes, or for a node that nobody has here, and what it
-- does with a datagram and with a packet of its router. Defined by this project.
use Rattle.std.specs.Prelude.{ℕ, ◌+◌, List, Bool, true, false, not, ◌&&◌, count_by, Option, Some, Result, Ok, Err, if◌then◌else◌}
use Rattle.std.specs.declared.net.socket_addr.SocketAddrV4.{SocketAddrV4}
use Rattle.ipx_wire.specs.Ipx.{PacketView}
use Rattle.ipx_wire.specs.declared.address.Node.{Node}
use Rattle.ipx_wire.specs.declared.ipx.packet.IpxHeader.{IpxHeader}
use Rattle.token_bucket.specs.declared.bucket.TokenBucket.{TokenBucket}
use Rattle.token_bucket.specs.TokenBucket.{bucket_has, bucket_taken}
use Rattle.ipxnet_server.specs.declared.disposition.Disposition.{Disposition}
use Rattle.ipxnet_server.specs.declared.disposition.Disposition.TheVariants.{Dropped}
use Rattle.ipxnet_server.specs.declared.drops.ServerDrop.{ServerDrop}
use Rattle.ipxnet_server.specs.declared.drops.ServerDrop.TheVariants.{Busy, RateLimited}
use Rattle.ipxnet_server.specs.declared.flooders.Flooder.{Flooder}
use Rattle.ipxnet_server.specs.declared.recipients.Recipients.{Recipients}
use Rattle.ipxnet_server.specs.declared.recipients.Recipients.TheVariants.{Nobody, One, Others, All, Here, Joined, JoinedAt}
use Rattle.ipxnet_server.specs.Flooders.{flooders_after, may_flood}
use Rattle.ipxnet_server.specs.ServerHears.{ServerView, is_joined_taker, is_of_client, is_taker, server_aged, server_dropping, server_gives, server_hearing, server_hears, server_met, takers_of}

-- bytes for these are a flood: all clients, or all joined routers
abbrev pub is_flood : Recipients → Bool
is_flood Nobody = false
is_flood (One place) = false
is_flood (Others from) = true
is_flood All = true
is_flood (Here from) = true
is_flood Joined = true
is_flood (JoinedAt router) = false

-- how many copies of bytes for these are sent: one for each client, and for each joined router, among them
abbrev pub copies_of : ServerView → Recipients → ℕ
copies_of l takers = count_by (λ c. is_taker takers c.place) l.clients
    + count_by (λ r. is_joined_taker takers r) l.routers

-- the port has too few tokens for that
abbrev pub is_port_busy : ServerView → Recipients → ℕ → Bool
is_port_busy l takers now = is_flood takers && not (bucket_has l.copies (copies_of l takers) now)

-- its tokens after bytes for these were sent
abbrev pub copies_left : ServerView → Recipients → ℕ → TokenBucket
copies_left l takers now =
    if is_flood takers then bucket_taken l.copies (copies_of l takers) now else l.copies

-- ---- what came from an address

-- it is a flood of the client there
abbrev pub is_client_flood : Disposition → Bool
is_client_flood heard = is_of_client heard && is_flood (takers_of heard)

-- that client has no token
abbrev pub is_client_limited : ServerView → Disposition → SocketAddrV4 → ℕ → Bool
is_client_limited l heard from now = is_client_flood heard && not (may_flood from now l.flooders)

-- what becomes of it then: by the tokens of its port, if those of the client are there, and by both
abbrev pub copied_hears : ServerView → Disposition → ℕ → Disposition
copied_hears l heard now = if is_port_busy l (takers_of heard) now then Dropped Busy else heard

abbrev pub limited_hears : ServerView → Disposition → SocketAddrV4 → ℕ → Disposition
limited_hears l heard from now =
    if is_client_limited l heard from now then Dropped (RateLimited from) else copied_hears l heard now

-- a client has no token: that is counted, and who it was is known
abbrev pub server_rate_limiting : SocketAddrV4 → ℕ → ServerView → ServerView
server_rate_limiting from now l =
    record (server_dropping (RateLimited from) l) { limited = Some (record { from = from; at = now }) }

-- a flood takes a token of the client that sent it, and one of the port for each copy
abbrev pub flooders_left : ServerView → Disposition → SocketAddrV4 → ℕ → List Flooder
flooders_left l heard from now =
    if is_client_flood heard then flooders_after from now l.flooders else l.flooders

abbrev pub server_flooding : Disposition → SocketAddrV4 → ℕ → ServerView → ServerView
server_flooding heard from now l = record l {
  flooders = flooders_left l heard from now;
  copies = copies_left l (takers_of heard) now;
}

abbrev pub server_copying : ServerView → Disposition → SocketAddrV4 → ℕ → ServerView
server_copying l heard from now =
    if is_port_busy l (takers_of heard) now then server_dropping Busy l else server_flooding heard from now l

abbrev pub server_limiting : ServerView → Disposition → SocketAddrV4 → ℕ → ServerView
server_limiting l heard from now =
    if is_client_limited l heard from now then server_rate_limiting from now l
    else server_copying l heard from now

-- ---- a packet from an address, in a datagram of `size` bytes

-- what becomes of it if no flood is limited, and what the server is then
abbrev pub unlimited_hears : ServerView → SocketAddrV4 → PacketView → ℕ → ℕ → Disposition
unlimited_hears l from p size now =
    server_hears (server_met from p.header size now (server_aged now l)) from p size now

abbrev pub server_unlimited : ServerView → SocketAddrV4 → PacketView → ℕ → ℕ → ServerView
server_unlimited l from p size now = server_hearing (unlimited_hears l from p size now) from now
    (server_met from p.header size now (server_aged now l))

-- the same with limits. Who sends a flood over a limit was heard
abbrev pub packet_hears : ServerView → SocketAddrV4 → PacketView → ℕ → ℕ → Disposition
packet_hears l from p size now =
    limited_hears (server_unlimited l from p size now) (unlimited_hears l from p size now) from now

abbrev pub server_heard : ServerView → SocketAddrV4 → PacketView → ℕ → ℕ → ServerView
server_heard l from p size now =
    server_limiting (server_unlimited l from p size now) (unlimited_hears l from p size now) from now

-- ---- a packet of the core

abbrev pub limited_gives : ServerView → Result Recipients ServerDrop → ℕ → Result Recipients ServerDrop
limited_gives l (Ok takers) now = if is_port_busy l takers now then Err Busy else Ok takers
limited_gives l (Err drop) now = Err drop

-- who gets a packet for a node, of `size` bytes with this header
abbrev pub packet_gives : ServerView → Node → Option IpxHeader → ℕ → ℕ → Result Recipients ServerDrop
packet_gives l node header size now =
    limited_gives (server_aged now l) (server_gives (server_aged now l) node header size) now

-- it is sent to these, or dropped
abbrev pub server_giving : Result Recipients ServerDrop → ℕ → ServerView → ServerView
server_giving (Ok takers) now l = record l { copies = copies_left l takers now }
server_giving (Err drop) now l = server_dropping drop l
