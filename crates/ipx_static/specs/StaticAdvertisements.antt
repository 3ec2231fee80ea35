-- What neighbours that advertise nothing themselves would advertise, as packets. Defined by this project. The
-- entry point is `AreStaticAdvertisements`.
use Rattle.std.specs.Prelude.{◌≡◌, ℕ, false, List, [], ◌∷◌, ◌++◌}
use Rattle.ipx_wire.specs.declared.address.Node.{Node}
use Rattle.ipx_wire.specs.Assigned.{local_network, rip_socket, sap_socket}
use Rattle.ipx_router.specs.declared.packets.Recipient.{Recipient}
use Rattle.ipx_router.specs.declared.port.Port.{Port}
use Rattle.ipx_router.specs.RouterPackets.{AreRoutePackets, AreServicePackets, SendingView, all_nodes}
use Rattle.ipx_static.specs.declared.neighbour.StaticNeighbour.{StaticNeighbour}

-- a neighbour is on the local network, which network 0 means
abbrev pub static_port : Node → Port
static_port node = record { network = record { 0 = local_network }; node = node; cost = 0 }

-- it advertises to all nodes there, at a socket, and is received on the port of this number
abbrev pub heard_on : ℕ → Node → ℕ → Recipient
heard_on number node socket = all_nodes number (static_port node) socket

-- what a router of its node would advertise there: its routes, a packet for each 50, and then its services, a
-- packet for each 7
abbrev pub AreAdvertisementsOf : StaticNeighbour → List SendingView → Type 0
AreAdvertisementsOf n advertisements = (routes services : List SendingView) × (advertisements ≡ routes ++ services)
    × AreRoutePackets (heard_on n.port n.node rip_socket) n.routes.items routes
    × AreServicePackets (heard_on n.port n.node sap_socket) false n.services.items services

-- the advertisements of all neighbours, one after another
abbrev pub AreStaticAdvertisements : List StaticNeighbour → List SendingView → Type 0
AreStaticAdvertisements [] advertisements = advertisements ≡ []
AreStaticAdvertisements (n ∷ ns) advertisements = (first rest : List SendingView) × (advertisements ≡ first ++ rest)
    × AreAdvertisementsOf n first × AreStaticAdvertisements ns rest
