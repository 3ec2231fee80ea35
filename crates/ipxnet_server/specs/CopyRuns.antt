-- How many copies of what is for all a server sends, in any course of calls. Defined by this project.
use Rattle.std.specs.Prelude.{◌≤◌, ℕ, ◌+◌, List, [], ◌∷◌, ◌&&◌, map, nat_le, Result, Ok, Err, if◌then◌else◌}
use Rattle.std.specs.declared.net.socket_addr.SocketAddrV4.{SocketAddrV4}
use Rattle.token_bucket.specs.TokenBucket.{most_in}
use Rattle.ipxnet_server.specs.declared.drops.ServerDrop.{ServerDrop}
use Rattle.ipxnet_server.specs.declared.port.ServerPort.{ServerPort}
use Rattle.ipxnet_server.specs.declared.recipients.Recipients.{Recipients}
use Rattle.ipxnet_server.specs.Pings.{AreInOrder}
use Rattle.ipxnet_server.specs.ServerFloods.{copies_of, is_flood, packet_gives, packet_hears, server_giving, server_heard}
use Rattle.ipxnet_server.specs.ServerHears.{ServerView, copies_limit, joined_server, server_aged, takers_of}
use Rattle.ipxnet_server.specs.ServerRuns.{Again, Datagram, NoPacket, OfCore, ServerCall, Turn, server_after, time_of}

-- how many copies of a flood are sent to these
abbrev pub flood_copies : ServerView → Recipients → ℕ
flood_copies l takers = if is_flood takers then copies_of l takers else 0

abbrev pub given_copies : ServerView → Result Recipients ServerDrop → ℕ
given_copies l (Ok takers) = flood_copies l takers
given_copies l (Err drop) = 0

-- how many copies of a flood a call sends
abbrev pub copies_sent : ServerView → ServerCall → ℕ
copies_sent l (Datagram from p size now) =
    flood_copies (server_heard l from p size now) (takers_of (packet_hears l from p size now))
copies_sent l (NoPacket fault now) = 0
copies_sent l (OfCore node header size now) =
    given_copies (server_giving (packet_gives l node header size now) now (server_aged now l)) (packet_gives l node header size now)
copies_sent l (Turn now) = 0
copies_sent l (Again from now) = 0

-- how many these calls send, from one time to another
abbrev pub copies_between : ℕ → ℕ → ServerView → List ServerCall → ℕ
copies_between a b l [] = 0
copies_between a b l (call ∷ calls) =
    (if nat_le a (time_of call) && nat_le (time_of call) b then copies_sent l call else 0)
    + copies_between a b (server_after l call) calls

-- whoever calls a new server, from one time to another it sends at most 200,000 copies of floods, of all clients,
-- joined routers and the core together, and 100,000 more for each second between the two
abbrev pub CopiesAreLimited : Type 0
CopiesAreLimited = (port : ServerPort) (most : ℕ) (routers : List SocketAddrV4) (calls : List ServerCall) (a b : ℕ)
    → AreInOrder (map time_of calls) → copies_between a b (joined_server port most routers) calls ≤ most_in copies_limit a b
