use Rattle.std.proofs.Common.{◌∙◌, List, false, ap, subst}
use Rattle.ipx_wire.specs.Assigned.{rip_socket, sap_socket}
use Rattle.ipx_control.specs.declared.rip.packet.RipEntry.{RipEntry}
use Rattle.ipx_control.specs.declared.sap.packet.ServiceEntry.{ServiceEntry}
use Rattle.ipx_router.specs.Adding.{AddsPackets}
use Rattle.ipx_router.specs.RouterPackets.{AreRoutePackets, AreServicePackets, all_nodes, sendings}
use Rattle.ipx_farewell.proofs.Said.{said_both}
use Rattle.ipx_farewell.proofs.farewell.farewell_of.Goals as goal

pub returns : goal.returns
returns c =
    let ports = c.args.ports.now in
    let at = c.args.at in
    let old = c.new-packets.result.items in
    let mid = c.add_route_packets.new.packets.items in
    let new = c.add_service_packets.new.packets.items in
    let routes = subst (λ (es : List RipEntry). AddsPackets (AreRoutePackets (all_nodes at.number at.port rip_socket) es) old mid) (c.deref.ensures.value ∙ c.in_ok-networks.ensures) c.in_ok-add_route_packets.ensures in
    let services = subst (λ (es : List ServiceEntry). AddsPackets (AreServicePackets (all_nodes at.number at.port sap_socket) false es) mid new) (c.deref-2.ensures.value ∙ c.in_ok-gone.ensures) c.in_ok-add_service_packets.ensures in
    said_both ports at.number at.port c.args.routes.now c.args.services.now old mid new (ap sendings c.new-packets.ensures.items) routes services
