-- What comes from joined routers changes nothing for players, in any course of calls. Defined by this project.
use Rattle.std.specs.Prelude.{◌≡◌, List, [], ◌∷◌, map, Option, Some, None, if◌then◌else◌}
use Rattle.std.specs.declared.net.socket_addr.SocketAddrV4.{SocketAddrV4}
use Rattle.ipx_wire.specs.declared.ipx.packet.IpxHeader.{IpxHeader}
use Rattle.token_bucket.specs.TokenBucket.{full_bucket}
use Rattle.ipxnet_server.specs.PeerServers.{is_joined_place}
use Rattle.ipxnet_server.specs.ServerCounted.{no_drops}
use Rattle.ipxnet_server.specs.ServerFloods.{packet_hears}
use Rattle.ipxnet_server.specs.ServerHears.{ServerView, answer_of, copies_limit, is_registration}
use Rattle.ipxnet_server.specs.ServerRuns.{Again, Datagram, NoPacket, OfCore, ServerCall, Turn, server_after, time_of}

-- a server but for what it knows of the clients of joined routers, its counts, its tokens, and which client was limited
-- last. What is left tells who is a client, who is noted, and which clients the next turn pings
abbrev pub server_here : ServerView → ServerView
server_here l = record l {
  counts = no_drops;
  far = [];
  flooders = [];
  copies = full_bucket copies_limit;
  limited = None;
}

-- a call, but nothing of what comes from a joined router, of what is no packet, and of a packet of the core
abbrev pub call_here : List SocketAddrV4 → ServerCall → Option ServerCall
call_here routers (Datagram from p size now) =
    if is_joined_place from routers then None else Some (Datagram from p size now)
call_here routers (NoPacket fault now) = None
call_here routers (OfCore node header size now) = None
call_here routers (Turn now) = Some (Turn now)
call_here routers (Again place now) = Some (Again place now)

-- how a call is answered if it is a registration. Any other has no answer here
abbrev pub registration_answered : ServerView → ServerCall → Option IpxHeader
registration_answered l (Datagram from p size now) =
    if is_registration p.header size then answer_of (packet_hears l from p size now) else None
registration_answered l (NoPacket fault now) = None
registration_answered l (OfCore node header size now) = None
registration_answered l (Turn now) = None
registration_answered l (Again place now) = None

-- how each of these calls is answered if it is a registration, and what is left of the server after it
abbrev pub run_here : ServerView → List ServerCall → List (ServerView × Option IpxHeader)
run_here l [] = []
run_here l (call ∷ calls) =
    (server_here (server_after l call), registration_answered l call) ∷ run_here (server_after l call) calls

-- two servers are the same but for what is left out above, and so are the calls of one and those of the other, each at
-- the same time. Then after each call the servers are still the same but for that, and each registration has the same
-- answer. So whatever comes from joined routers, it keeps nobody out
abbrev pub JoinedRoutersKeepNobodyOut : Type 0
JoinedRoutersKeepNobodyOut = (l m : ServerView) (calls others : List ServerCall)
    → server_here l ≡ server_here m
    → map time_of calls ≡ map time_of others
    → map (call_here l.routers) calls ≡ map (call_here l.routers) others
    → run_here l calls ≡ run_here m others
