-- Routes and then services, as packets.
use Rattle.std.proofs.Common.{◌≡◌, ◌∙◌, ℕ, false, List, [], ◌++◌, ap, map}
use Rattle.ipx_wire.specs.Assigned.{rip_socket, sap_socket}
use Rattle.ipx_router.specs.declared.outcome.Reply.{Reply}
use Rattle.ipx_router.specs.declared.port.Port.{Port}
use Rattle.ipx_router.specs.Adding.{AddsPackets}
use Rattle.ipx_router.specs.Placing.{advertised_of_other_ports}
use Rattle.ipx_router.specs.RouterPackets.{AreRoutePackets, AreServicePackets, SendingView, all_nodes, sendings}
use Rattle.ipx_farewell.specs.Farewell.{AreFarewell, BestRoutes, BestServices, advertised_networks, gone_route, gone_service}

-- packets that are added to none are all of them
pub said_both : (ports : List Port) (number : ℕ) (port : Port) (heard : BestRoutes) (offered : BestServices) (old mid new : List Reply)
    → sendings old ≡ []
    → AddsPackets (AreRoutePackets (all_nodes number port rip_socket) (map gone_route (advertised_networks ports number port heard))) old mid
    → AddsPackets (AreServicePackets (all_nodes number port sap_socket) false (map gone_service (advertised_of_other_ports number offered))) mid new
    → AreFarewell ports number port heard offered (sendings new)
said_both ports number port heard offered old mid new none p q =
    (p.0, q.0, q.1 ∙ ap (λ (t : List SendingView). t ++ q.0) (p.1 ∙ ap (λ (t : List SendingView). t ++ p.0) none), p.2, q.2)
