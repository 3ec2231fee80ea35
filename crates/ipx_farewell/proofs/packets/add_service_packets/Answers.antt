use Rattle.std.proofs.Common.{◌∙◌, List, false, sym, subst, take}
use Rattle.ipx_wire.specs.Assigned.{sap_socket}
use Rattle.ipx_control.specs.declared.sap.packet.ServiceEntry.{ServiceEntry}
use Rattle.ipx_control.specs.Sap as sap
use Rattle.ipx_router.specs.RouterPackets.{IsSapPacket, all_nodes, sending_of}
use Rattle.ipx_farewell.proofs.Cuts.{cut_done, cut_more, none_left, some_left, take_fewer}
use Rattle.ipx_farewell.proofs.packets.add_service_packets.Goals as goal

pub loop-rest-preserved : goal.loop-rest-preserved
loop-rest-preserved c =
    let rest = c.loop-rest.rest.now in
    let reply = c.in_ok-services_reply.field-0 in
    let to = all_nodes c.args.from.number c.args.from.port sap_socket in
    let fewer = take_fewer 7 c.min.result rest c.min.ensures in
    let part : IsSapPacket to (sap.Response false (take 7 rest)) (sending_of reply) = subst (λ (part : List ServiceEntry). IsSapPacket to (sap.Response false part) (sending_of reply)) (c.split_at.ensures.front ∙ fewer.0) c.in_ok-services_reply.ensures in
    rw (c.in_ok-push.ensures.items, c.split_at.ensures.back, fewer.1)
    (cut_more 7 (λ part. IsSapPacket to (sap.Response false part)) c.args.services.now rest c.args.packets.now.items c.loop-rest.packets.items c.loop-rest.invariant reply (some_left rest (sym c.is_empty.ensures ∙ c.loop-rest-test.true)) part)

pub returns : goal.returns
returns c =
    let to = all_nodes c.args.from.number c.args.from.port sap_socket in
    cut_done 7 (λ part. IsSapPacket to (sap.Response false part)) c.args.services.now c.loop-rest.rest.now c.args.packets.now.items c.loop-rest.packets.items c.loop-rest.invariant (none_left c.loop-rest.rest.now (sym c.is_empty.ensures ∙ c.loop-rest-test.false))
