-- What a router asks its neighbours when it starts.
use Rattle.std.specs.Prelude.{◌≡◌, ℕ, ◌+◌, false, List, [], ◌∷◌, ◌++◌}
use Rattle.ipx_wire.specs.Assigned.{all_networks, rip_socket, sap_socket}
use Rattle.ipx_control.specs.declared.rip.packet.RipEntry.{RipEntry}
use Rattle.ipx_control.specs.Rip as rip
use Rattle.ipx_control.specs.Sap as sap
use Rattle.ipx_router.specs.declared.port.Port.{Port}
use Rattle.ipx_router.specs.RouterPackets.{SendingView, IsRipPacket, IsSapPacket, all_nodes}

-- the entry by which a RIP request asks for all routes
abbrev pub all_asked : RipEntry
all_asked = record { network = record { 0 = all_networks }; hops = 65535; ticks = 65535 }

-- the packets by which a router asks on one port: a request for all routes, and a query for all services
abbrev pub AreAsked : ℕ → Port → List SendingView → Type 0
AreAsked number port sent = (a b : SendingView) × (sent ≡ a ∷ b ∷ [])
    × IsRipPacket (all_nodes number port rip_socket) (rip.Request (all_asked ∷ [])) a
    × IsSapPacket (all_nodes number port sap_socket) (sap.Query false 65535) b

-- the packets by which a router asks on its ports, which are numbered from a first number on
abbrev pub AreStarts : ℕ → List Port → List SendingView → Type 0
AreStarts number [] sent = sent ≡ []
AreStarts number (port ∷ ports) sent = (first rest : List SendingView) × (sent ≡ first ++ rest)
    × AreAsked number port first × AreStarts (number + 1) ports rest
