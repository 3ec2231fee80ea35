-- How a router classifies a packet by its header: control for the router itself, or for another network.
use Rattle.std.specs.Prelude.{◌==◌, ◌||◌, ◌&&◌, Bool, not, nat_eq, if◌then◌else◌}
use Rattle.std.specs.Cmp.Lexicographic.{pointwise}
use Rattle.ipx_wire.specs.declared.address.Node.{Node}
use Rattle.ipx_wire.specs.declared.ipx.packet.IpxHeader.{IpxHeader}
use Rattle.ipx_wire.specs.Assigned.{local_network, netbios_propagation_type, rip_socket, sap_socket}
use Rattle.ipx_router.specs.declared.port.Port.{Port}
use Rattle.ipx_router.specs.declared.classify.PacketClass.{PacketClass}
use Rattle.ipx_router.specs.declared.classify.PacketClass.TheVariants.{Dropped, Rip, Sap, Forward}
use Rattle.ipx_router.specs.declared.reason.Reason.TheVariants.{Propagated, NotOurs}
use Rattle.ipx_router.specs.RouterPackets.{broadcast}

abbrev pub is_node : Node → Node → Bool
is_node a b = pointwise nat_eq a.0 b.0

-- it is for the node of the port at which it came in, or for all nodes there, and comes from another node of
-- that network
abbrev pub is_from_neighbour : Port → IpxHeader → Bool
is_from_neighbour arrived h =
    (is_node h.to.node arrived.node || is_node h.to.node broadcast)
    && ((h.from.network.0 == local_network) || (h.from.network.0 == arrived.network.0))
    && not (is_node h.from.node arrived.node)

abbrev pub class_on_network : Port → IpxHeader → PacketClass
class_on_network arrived h =
    if is_from_neighbour arrived h then (
    if h.to.socket.0 == rip_socket then Rip
    else if h.to.socket.0 == sap_socket then Sap
    else Dropped NotOurs
    )
    else Dropped NotOurs

-- packets of type 20 are not propagated; a packet for the local network is control, or not for the router
abbrev pub class_of : Port → IpxHeader → PacketClass
class_of arrived h =
    if h.kind == netbios_propagation_type then Dropped Propagated
    else if (h.to.network.0 == local_network) || (h.to.network.0 == arrived.network.0)
    then class_on_network arrived h
    else Forward
