use Rattle.std.proofs.Common.{◌∙◌, List, sym, subst, take}
use Rattle.ipx_control.specs.declared.sap.packet.ServiceEntry.{ServiceEntry}
use Rattle.ipx_control.specs.Sap as sap
use Rattle.ipx_router.specs.RouterPackets.{IsSapPacket, sending_of}
use Rattle.ipx_router.proofs.Cuts.{cut_done, cut_more, none_left, some_left, take_fewer}
use Rattle.ipx_router.proofs.packets.add_service_packets.Goals as goal

pub loop-rest-preserved : goal.loop-rest-preserved
loop-rest-preserved c =
    let rest = c.loop-rest.rest.now in
    let reply = c.in_ok-services_packet.field-0 in
    let fewer = take_fewer 7 c.min.result rest c.min.ensures in
    let part : IsSapPacket c.args.to (sap.Response c.args.nearest (take 7 rest)) (sending_of reply) = subst (λ (part : List ServiceEntry). IsSapPacket c.args.to (sap.Response c.args.nearest part) (sending_of reply)) (c.split_at.ensures.front ∙ fewer.0) c.in_ok-services_packet.ensures in
    rw (c.in_ok-push.ensures.items, c.split_at.ensures.back, fewer.1)
    (cut_more 7 (λ part. IsSapPacket c.args.to (sap.Response c.args.nearest part)) c.args.entries.now rest c.args.replies.now.items c.loop-rest.replies.items c.loop-rest.invariant reply (some_left rest (sym c.is_empty.ensures ∙ c.loop-rest-test.true)) part)

pub returns : goal.returns
returns c =
    cut_done 7 (λ part. IsSapPacket c.args.to (sap.Response c.args.nearest part)) c.args.entries.now c.loop-rest.rest.now c.args.replies.now.items c.loop-rest.replies.items c.loop-rest.invariant (none_left c.loop-rest.rest.now (sym c.is_empty.ensures ∙ c.loop-rest-test.false))
