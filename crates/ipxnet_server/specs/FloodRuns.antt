-- How often a server passes on what is for all, in any course of calls. Defined by this project.
use Rattle.std.specs.Prelude.{◌≤◌, ℕ, ◌+◌, List, [], ◌∷◌, Bool, false, ◌&&◌, map, nat_le, if◌then◌else◌}
use Rattle.std.specs.declared.net.socket_addr.SocketAddrV4.{SocketAddrV4}
use Rattle.token_bucket.specs.TokenBucket.{most_in}
use Rattle.ipxnet_server.specs.Flooders.{flood_limit}
use Rattle.ipxnet_server.specs.Pings.{AreInOrder}
use Rattle.ipxnet_server.specs.ServerClients.{are_one_place}
use Rattle.ipxnet_server.specs.ServerFloods.{is_client_flood, packet_hears}
use Rattle.ipxnet_server.specs.ServerHears.{ServerView}
use Rattle.ipxnet_server.specs.ServerRuns.{Again, Datagram, NoPacket, OfCore, ServerCall, Turn, server_after, time_of}

-- from one time to another, what a client at an address sent is passed on as a flood
abbrev pub passes_flood : SocketAddrV4 → ℕ → ℕ → ServerView → ServerCall → Bool
passes_flood place a b l (Datagram from p size now) = are_one_place from place && (nat_le a now && nat_le now b)
    && is_client_flood (packet_hears l from p size now)
passes_flood place a b l (NoPacket fault now) = false
passes_flood place a b l (OfCore node header size now) = false
passes_flood place a b l (Turn now) = false
passes_flood place a b l (Again from now) = false

-- how many of these calls do so
abbrev pub floods_passed : SocketAddrV4 → ℕ → ℕ → ServerView → List ServerCall → ℕ
floods_passed place a b l [] = 0
floods_passed place a b l (call ∷ calls) =
    (if passes_flood place a b l call then 1 else 0) + floods_passed place a b (server_after l call) calls

-- whatever the server is and whoever calls, from one time to another at most 256 floods of a client are passed on,
-- and 128 more for each second between the two
abbrev pub ClientsFloodSeldom : Type 0
ClientsFloodSeldom = (l : ServerView) (calls : List ServerCall) (place : SocketAddrV4) (a b : ℕ)
    → AreInOrder (map time_of calls) → floods_passed place a b l calls ≤ most_in flood_limit a b
