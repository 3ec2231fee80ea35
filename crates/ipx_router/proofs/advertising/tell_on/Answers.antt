use Rattle.std.proofs.Common.{List, false, refl, subst}
use Rattle.std.proofs.lemmas.Result.{on_ok_weaker}
use Rattle.ipx_wire.specs.Assigned.{sap_socket}
use Rattle.ipx_control.specs.declared.rip.packet.RipEntry.{RipEntry}
use Rattle.ipx_router.specs.RouterPackets.{AreRoutePackets, all_nodes}
use Rattle.ipx_router.specs.Adding.{AddsPackets}
use Rattle.ipx_router.specs.Placing.{advertised_of_other_ports}
use Rattle.ipx_router.proofs.Tellings.{tells_both}
use Rattle.ipx_router.proofs.AdvertisedServices.{told_services_all}
use Rattle.ipx_router.proofs.advertising.tell_on.Goals as goal

pub returns : goal.returns
returns c =
    let at = c.args.at in
    let heard = c.args.heard_services.now in
    let old = c.args.told.now.items in
    let mid = c.add_route_packets.new.replies.items in
    let new = c.add_advertised_services.new.told.items in
    let to_routes = c.everyone-for_routes.result in
    let to_services = all_nodes at.number at.port sap_socket in
    let routes = subst (λ (es : List RipEntry). AddsPackets (AreRoutePackets to_routes es) old mid) c.deref.ensures.value c.in_ok-add_route_packets.ensures in
    on_ok_weaker c.add_advertised_services.result (λ services known_r known_s listed_r listed_s.
    tells_both c.args.ports.now known_r known_s at old mid new c.in_ok-known_routes.known_routes.items (advertised_of_other_ports at.number heard) to_routes to_services
    c.everyone-for_routes.ensures refl (c.in_ok-known_routes.ensures known_r listed_r) (told_services_all known_s at heard listed_s c.one_best.ensures) routes services) c.add_advertised_services.ensures
