use Rattle.ipx_wire.specs.Assigned.{rip_socket, sap_socket}
use Rattle.std.proofs.Common.{List, ◌∷◌, [], subst, false}
use Rattle.ipx_control.specs.declared.rip.packet.RipEntry.{RipEntry}
use Rattle.ipx_control.specs.Rip as rip
use Rattle.ipx_control.specs.Sap as sap
use Rattle.ipx_router.specs.declared.packets.Recipient.{Recipient}
use Rattle.ipx_router.specs.RouterPackets.{IsRipPacket, IsSapPacket, all_nodes, sending_of}
use Rattle.ipx_router.specs.Starting.{all_asked}
use Rattle.ipx_router.proofs.Tellings.{asks_two}
use Rattle.ipx_router.proofs.starting.ask_on.Goals as goal

pub returns : goal.returns
returns c =
    let r = c.in_ok-for_routes.for_routes in
    let s = c.in_ok-for_services.for_services in
    let to : Recipient = all_nodes c.args.number c.args.port rip_socket in
    let routes : IsRipPacket to (rip.Request (all_asked ∷ [])) (sending_of r) =
    subst (λ (es : List RipEntry). IsRipPacket to (rip.Request es) (sending_of r)) c.in_ok-networks.ensures.items
    (subst (λ (t : Recipient). IsRipPacket t (rip.Request c.in_ok-networks.networks.items) (sending_of r)) c.everyone.ensures c.in_ok-for_routes.ensures) in
    let services : IsSapPacket (all_nodes c.args.number c.args.port sap_socket) (sap.Query false 65535) (sending_of s) =
    subst (λ (t : Recipient). IsSapPacket t (sap.Query false 65535) (sending_of s)) c.everyone-2.ensures c.in_ok-for_services.ensures in
    asks_two c.args.number c.args.port c.args.asked.now.items c.push.new.self.items c.push-2.new.self.items r s c.in_ok-push.ensures.items c.in_ok-push-2.ensures.items routes services
