use Rattle.std.proofs.Common.{◌∙◌, List, sym, subst, take}
use Rattle.ipx_wire.specs.Assigned.{rip_socket}
use Rattle.ipx_control.specs.declared.rip.packet.RipEntry.{RipEntry}
use Rattle.ipx_control.specs.Rip as rip
use Rattle.ipx_router.specs.RouterPackets.{IsRipPacket, all_nodes, sending_of}
use Rattle.ipx_farewell.proofs.Cuts.{cut_done, cut_more, none_left, some_left, take_fewer}
use Rattle.ipx_farewell.proofs.packets.add_route_packets.Goals as goal

pub loop-rest-preserved : goal.loop-rest-preserved
loop-rest-preserved c =
    let rest = c.loop-rest.rest.now in
    let reply = c.in_ok-routes_reply.field-0 in
    let to = all_nodes c.args.from.number c.args.from.port rip_socket in
    let fewer = take_fewer 50 c.min.result rest c.min.ensures in
    let part : IsRipPacket to (rip.Response (take 50 rest)) (sending_of reply) = subst (λ (part : List RipEntry). IsRipPacket to (rip.Response part) (sending_of reply)) (c.split_at.ensures.front ∙ fewer.0) c.in_ok-routes_reply.ensures in
    rw (c.in_ok-push.ensures.items, c.split_at.ensures.back, fewer.1)
    (cut_more 50 (λ part. IsRipPacket to (rip.Response part)) c.args.routes.now rest c.args.packets.now.items c.loop-rest.packets.items c.loop-rest.invariant reply (some_left rest (sym c.is_empty.ensures ∙ c.loop-rest-test.true)) part)

pub returns : goal.returns
returns c =
    let to = all_nodes c.args.from.number c.args.from.port rip_socket in
    cut_done 50 (λ part. IsRipPacket to (rip.Response part)) c.args.routes.now c.loop-rest.rest.now c.args.packets.now.items c.loop-rest.packets.items c.loop-rest.invariant (none_left c.loop-rest.rest.now (sym c.is_empty.ensures ∙ c.loop-rest-test.false))
