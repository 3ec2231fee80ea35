use Rattle.std.proofs.Common.{List, false, subst}
use Rattle.std.proofs.lemmas.Result.{on_ok_weaker}
use Rattle.std.specs.Result.{OnOk}
use Rattle.ipx_wire.specs.Assigned.{rip_socket, sap_socket}
use Rattle.ipx_control.specs.declared.rip.packet.RipEntry.{RipEntry}
use Rattle.ipx_control.specs.declared.sap.packet.ServiceEntry.{ServiceEntry}
use Rattle.ipx_router.specs.RouterPackets.{AreRoutePackets, AreServicePackets}
use Rattle.ipx_router.specs.Adding.{AddsPackets}
use Rattle.ipx_static.specs.StaticAdvertisements.{heard_on}
use Rattle.ipx_static.proofs.WordSteps.{words_both}
use Rattle.ipx_static.proofs.advertisements.add_advertisements.Goals as goal

pub returns : goal.returns
returns c =
    let n = c.args.neighbour.now in
    let old = c.args.advertisements.now.items in
    let mid = c.add_route_advertisements.new.advertisements.items in
    let new = c.add_service_advertisements.new.advertisements.items in
    let routes = subst (λ (es : List RipEntry). AddsPackets (AreRoutePackets (heard_on n.port n.node rip_socket) es) old mid) c.deref.ensures.value c.in_ok-add_route_advertisements.ensures in
    let services = subst (λ (es : List ServiceEntry). OnOk c.add_service_advertisements.result (AddsPackets (AreServicePackets (heard_on n.port n.node sap_socket) false es) mid new)) c.deref-2.ensures.value c.add_service_advertisements.ensures in
    on_ok_weaker c.add_service_advertisements.result (words_both n old mid new routes) services
