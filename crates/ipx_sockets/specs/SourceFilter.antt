-- Which senders are accepted at the ports of a device, and what a device with access lists delivers and
-- sends. Defined by this project.
use Rattle.std.specs.Prelude.{Vec, ◌≡◌, ℕ, ◌+◌, List, Bool, true, false, not, ◌==◌, ◌&&◌, ◌||◌, Option, Some, None, if◌then◌else◌, take}
use Rattle.std.specs.Global.{Global}
use Rattle.ipx_wire.specs.Assigned.{rip_socket, sap_socket}
use Rattle.ipx_wire.specs.Ipx.{BeginsWith, PacketView}
use Rattle.ipx_wire.specs.declared.address.Network.{Network}
use Rattle.ipx_wire.specs.declared.address.Node.{Node}
use Rattle.ipx_wire.specs.declared.ipx.packet.IpxHeader.{IpxHeader}
use Rattle.ipx_router.specs.Classify.{is_node}
use Rattle.ipx_router.specs.RouterPackets.{broadcast}
use Rattle.ipx_carrier.specs.Counting.{raised}
use Rattle.ipx_carrier.specs.Mapping.{node_at}
use Rattle.ipxnet_server.specs.ServerHears.{tells_router}
use Rattle.ipx_sockets.specs.declared.source_check.NetworkMismatch.{NetworkMismatch}
use Rattle.ipx_sockets.specs.declared.source_filter.AccessList.{AccessList}
use Rattle.ipx_sockets.specs.declared.source_filter.DropCount.{DropCount}
use Rattle.ipx_sockets.specs.declared.source_filter.FilterDrops.{FilterDrops}
use Rattle.ipx_sockets.specs.declared.source_filter.Verdict.{Verdict}
use Rattle.ipx_sockets.specs.declared.source_filter.Verdict.TheVariants.{Heard, UnknownSender, SpoofedSource, NotARouter}
use Rattle.ipx_config.specs.Values.{is_peer}

-- it is in the list. Without a list every IP address is. An unknown one is in no list
abbrev pub is_listed : Option (Vec (List ℕ) Global) → Option (List ℕ) → Bool
is_listed None from = true
is_listed (Some ips) None = false
is_listed (Some ips) (Some ip) = is_peer ips.items ip

-- at a port of that network a packet comes straight from its source, and no router forwarded it. A router
-- that forwards a packet fills in a source network that was left out, which is 0, and adds a hop. It does not
-- forward a packet to the network that it came from
abbrev pub is_unrouted : Network → IpxHeader → Bool
is_unrouted network h = h.from.network.0 == 0
    || (h.from.network.0 == network.0 && (h.to.network.0 == 0 || (h.to.network.0 == network.0 || h.hops == 0)))

-- a node is that of this IP address, if there is one
abbrev pub is_node_of : Node → Option (List ℕ) → Bool
is_node_of node None = false
is_node_of node (Some ip) = is_node node (node_at ip)

-- a network is that of the port, or left out
abbrev pub is_local_to : Network → Network → Bool
is_local_to network n = n.0 == 0 || n.0 == network.0

-- RIP or SAP from the network of the port to that network, which a router forwarded nevertheless. Each router
-- adds a hop, and a neighbour sends its own packets with none
abbrev pub is_forwarded_within : Network → IpxHeader → Bool
is_forwarded_within network h = not (h.hops == 0)
    && ((h.to.socket.0 == rip_socket || h.to.socket.0 == sap_socket)
    && (is_local_to network h.to.network && is_local_to network h.from.network))

-- the source of a packet is its sender, if no router forwarded it. The broadcast node is never the source,
-- and no router forwards RIP or SAP within the network
abbrev pub source_matches_sender : Network → Option (List ℕ) → IpxHeader → Bool
source_matches_sender network from h =
    not (is_node h.from.node broadcast) && not (is_forwarded_within network h)
    && (not (is_unrouted network h) || is_node_of h.from.node from)

-- the same for bytes; those that are no packet have no source
abbrev pub SourceMatchesSender : Network → Option (List ℕ) → List ℕ → Type 0
SourceMatchesSender network from bytes =
    (p : PacketView) → BeginsWith bytes p → source_matches_sender network from p.header ≡ true

-- a sender that is no router forwards nothing, advertises nothing, and answers no query of RIP or SAP: a response is
-- one by either of its sockets
abbrev pub may_originate : Network → Option (Vec (List ℕ) Global) → Option (List ℕ) → PacketView → Bool
may_originate network routers from p =
    is_listed routers from || (is_unrouted network p.header && not (tells_router p))

-- the same for bytes; those that are no packet do neither
abbrev pub MaySay : Network → Option (Vec (List ℕ) Global) → Option (List ℕ) → List ℕ → Type 0
MaySay network routers from bytes =
    (p : PacketView) → BeginsWith bytes p → may_originate network routers from p ≡ true

-- the numbers that the port and the sender of a packet have for their network, if they differ: the packet names
-- the node that sent it, on another network, and no router forwarded it
abbrev pub network_mismatch : Network → Option (List ℕ) → IpxHeader → Option NetworkMismatch
network_mismatch network from h =
    if (h.hops == 0) && (is_node_of h.from.node from && not (is_local_to network h.from.network))
    then Some (record { sender = h.from.network; port = network }) else None

abbrev pub IsMismatch : Network → Option (List ℕ) → List ℕ → Option NetworkMismatch → Type 0
IsMismatch network from bytes mismatch =
    (p : PacketView) → BeginsWith bytes p → mismatch ≡ network_mismatch network from p.header

-- the verdict of an access list on bytes from this IP address. It first checks for an unknown sender, and
-- then for another source. Without an access list every sender is unknown
abbrev pub IsVerdictOn : Option AccessList → Option (List ℕ) → List ℕ → Verdict → Type 0
IsVerdictOn None from bytes word = word ≡ UnknownSender
IsVerdictOn (Some g) from bytes UnknownSender = is_listed g.hears from ≡ false
IsVerdictOn (Some g) from bytes SpoofedSource =
    (is_listed g.hears from ≡ true) × (SourceMatchesSender g.network from bytes → ⊥)
IsVerdictOn (Some g) from bytes (NotARouter mismatch) = (is_listed g.hears from ≡ true)
    × SourceMatchesSender g.network from bytes × (MaySay g.network g.routers from bytes → ⊥)
    × IsMismatch g.network from bytes mismatch
IsVerdictOn (Some g) from bytes Heard = (is_listed g.hears from ≡ true)
    × SourceMatchesSender g.network from bytes × MaySay g.network g.routers from bytes

-- a datagram of this sender may come to a port. Without an access list every sender is unknown
abbrev pub may_come : Option AccessList → Option (List ℕ) → Bool
may_come None from = false
may_come (Some g) from = is_listed g.hears from

-- a datagram may be sent there by a port
abbrev pub may_go : Option AccessList → List ℕ → Bool
may_go None to = false
may_go (Some g) to = is_listed g.sends (Some to)

-- nothing was dropped, for one reason and for all
abbrev pub zero_drops : DropCount
zero_drops = record { count = 0; last = None }

abbrev pub no_filter_drops : FilterDrops
no_filter_drops =
    record { unknown_senders = zero_drops; spoofed = zero_drops; not_a_router = zero_drops; mismatch = None }

-- one more was dropped, from this IP address
abbrev pub one_more : DropCount → Option (List ℕ) → DropCount
one_more k from = record { count = raised k.count; last = from }

-- how many were dropped, for all reasons
abbrev pub drops_in : FilterDrops → ℕ
drops_in k = k.unknown_senders.count + k.spoofed.count + k.not_a_router.count

-- what is accepted is delivered. Anything else raises the count of its reason, and it is as if nothing came
abbrev pub HandsUp : Verdict → Option (List ℕ) → ℕ → Option ℕ → FilterDrops → FilterDrops → Type 0
HandsUp Heard from n up before after = (up ≡ Some n) × (after ≡ before)
HandsUp UnknownSender from n up before after =
    (up ≡ None) × (after ≡ record before { unknown_senders = one_more before.unknown_senders from })
HandsUp SpoofedSource from n up before after =
    (up ≡ None) × (after ≡ record before { spoofed = one_more before.spoofed from })
HandsUp (NotARouter mismatch) from n up before after = (up ≡ None)
    × (after ≡ record before { not_a_router = one_more before.not_a_router from; mismatch = mismatch })

-- what a device receives into a buffer, when this many bytes came from this IP address, or none
abbrev pub TakesIn : Option AccessList → Option (List ℕ) → List ℕ → Option ℕ → Option ℕ → FilterDrops → FilterDrops → Type 0
TakesIn g from room None up before after = (up ≡ None) × (after ≡ before)
TakesIn g from room (Some n) up before after = (word : Verdict) × IsVerdictOn g from (take n room) word
    × HandsUp word from n up before after
