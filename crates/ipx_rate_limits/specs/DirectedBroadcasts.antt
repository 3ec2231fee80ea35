-- Directed broadcasts: packets for all nodes of another network, or for a group of them. Defined by this
-- project.
use Rattle.std.specs.Prelude.{◌≡◌, ℕ, ◌%◌, ◌==◌, ◌&&◌, ◌||◌, Bool, true, not, List, Some, None, nat_lt, slice_get, slice_index}
use Rattle.ipx_wire.specs.Assigned.{local_network, netbios_propagation_type}
use Rattle.ipx_wire.specs.Ipx.{BeginsWith, PacketView}
use Rattle.ipx_wire.specs.declared.address.Address.{Address}
use Rattle.ipx_wire.specs.declared.address.Node.{Node}
use Rattle.ipx_wire.specs.declared.ipx.packet.IpxHeader.{IpxHeader}
use Rattle.ipx_router.specs.declared.port.Port.{Port}
use Rattle.ipx_router.specs.Classify.{is_node}
use Rattle.ipx_router.specs.RouteChoice.{direct_route}
use Rattle.ipx_router.specs.RouterPackets.{broadcast}
use Rattle.ipx_carrier.specs.Counting.{raised}
use Rattle.ipx_rate_limits.specs.declared.directed_broadcast.DirectedBroadcast.{DirectedBroadcast}
use Rattle.ipx_rate_limits.specs.declared.directed_broadcast.DirectedDrops.{DirectedDrops}
use Rattle.ipx_rate_limits.specs.declared.port_buckets.PortBuckets.{PortBuckets}
use Rattle.ipx_rate_limits.specs.PortBuckets.{has_groups}

-- a node is all nodes; or a group of them, whose address has the bit that is sent first, on a network that has
-- groups
abbrev pub is_for_many : Bool → Node → Bool
is_for_many groups node = is_node node broadcast || (groups && (slice_index node.0 0 % 2 == 1))

-- a packet that came by this port is for such a node of another network, and can leave: fewer than 15 routers
-- forwarded it. Type 20 is excepted, because no router forwards it this way
abbrev pub is_directed : Port → Bool → IpxHeader → Bool
is_directed arrived groups h =
    not (h.kind == netbios_propagation_type) && nat_lt h.hops 15 && is_for_many groups h.to.node
    && not (h.to.network.0 == local_network) && not (h.to.network.0 == arrived.network.0)

-- bytes that came by this port are such a packet, and its network is that of one of these ports, by which it
-- leaves. The buckets of that port say whether it has groups
abbrev pub IsDirectedAt : List Port → List PortBuckets → Port → List ℕ → DirectedBroadcast → Type 0
IsDirectedAt ports limits arrived bytes it = (p : PacketView) × BeginsWith bytes p
    × (is_directed arrived (has_groups limits it.leaves_by) p.header ≡ true)
    × (direct_route ports p.header.to.network ≡ Some it.leaves_by) × (it.from ≡ p.header.from)

-- bytes are a directed broadcast at a port that exists
abbrev pub IsDirectedBroadcast : List Port → List PortBuckets → ℕ → List ℕ → DirectedBroadcast → Type 0
IsDirectedBroadcast ports limits port bytes it =
    (arrived : Port) × (slice_get ports port ≡ Some arrived) × IsDirectedAt ports limits arrived bytes it

-- none has been dropped; one more was dropped, from this sender
abbrev pub no_directed_drops : DirectedDrops
no_directed_drops = record { count = 0; last = None }

abbrev pub one_more_directed : DirectedDrops → Address → DirectedDrops
one_more_directed drops from = record { count = raised drops.count; last = Some from }
