-- What a host that pings receives (Novell SPX): an answer is what would let the link of its request join. The
-- entry point is `PingHears`.
use Rattle.std.specs.Prelude.{◌≡◌, ℕ, ◌==◌, ◌&&◌, Bool, nat_lt, is_none, List, Option, Some, None, MatchBool, MatchOption, if◌then◌else◌}
use Rattle.ipx_wire.specs.declared.address.Address.{Address}
use Rattle.ipx_wire.specs.declared.ipx.packet.IpxHeader.{IpxHeader}
use Rattle.ipx_wire.specs.declared.spx.packet.SpxHeader.{SpxHeader}
use Rattle.ipx_wire.specs.Assigned.{spx_type}
use Rattle.ipx_wire.specs.Ipx.{IsIpx, PacketView, ipx_fault}
use Rattle.ipx_wire.specs.Spx.{IsSpx, spx_fault}
use Rattle.ipx_router.specs.Classify.{is_node}
use Rattle.spx_link.specs.Receive.{is_reply}
use Rattle.ipx_carrier.specs.Counting.{raised}
use Rattle.ipx_query.specs.declared.ping_core.PingCore.{PingCore}
use Rattle.ipx_query.specs.QueryAnswers.{is_at_hand}
use Rattle.ipx_query.specs.PingRequests.{ping_link}

-- two addresses are the same
abbrev pub is_address : Address → Address → Bool
is_address a b =
    (a.network.0 == b.network.0) && (is_node a.node b.node && (a.socket.0 == b.socket.0))

-- a packet of type 5 is to the host's own node and socket, and from the listener's address
abbrev pub is_from_pinged : PingCore → IpxHeader → Bool
is_from_pinged p h = (h.kind == spx_type) && (is_at_hand p.own.network h.to.network
    && (is_node h.to.node p.own.node && ((h.to.socket.0 == p.own.socket.0)
    && is_address h.from p.to)))

-- an SPX packet that would let the link of the request join is an answer, with the number of routers that it
-- passed
abbrev pub ReadsPing : PingCore → PacketView → Option ℕ → Type 0
ReadsPing p d answer = MatchOption (spx_fault d.body)
    ((h : SpxHeader) × (body : List ℕ) × IsSpx h body d.body
    × (answer ≡ (if is_reply (ping_link p.own p.to p.id) h then Some d.header.hops else None)))
    (λ f. answer ≡ None)

-- what a datagram is as an answer: how many routers it passed, or that it is none
abbrev pub IsPingAnswer : PingCore → List ℕ → Option ℕ → Type 0
IsPingAnswer p bytes answer = MatchOption (ipx_fault bytes)
    ((d : PacketView) × (tail : List ℕ) × IsIpx d bytes tail
    × MatchBool (is_from_pinged p d.header) (ReadsPing p d answer) (answer ≡ None))
    (λ f. answer ≡ None)

-- the first answer since the latest request was sent is counted for that request, with the number of routers
-- that it passed
abbrev pub ping_heard : Option ℕ → PingCore → PingCore
ping_heard None p = p
ping_heard (Some routers) p = if nat_lt 0 p.sent && is_none p.hops
    then record p { answered = raised p.answered; hops = Some routers; passed = routers } else p

-- the host after it received bytes: what is not an answer changes nothing
abbrev pub PingHears : PingCore → List ℕ → PingCore → Type 0
PingHears old bytes new =
    (answer : Option ℕ) × IsPingAnswer old bytes answer × (new ≡ ping_heard answer old)
