use Rattle.std.proofs.Common.{◌≡◌, ◌∙◌, List, [], ℕ, false, arith, sym, subst}
use Rattle.ipx_wire.specs.Assigned.{packet_exchange_type, sap_socket}
use Rattle.ipx_control.specs.Sap.{IsSap}
use Rattle.ipx_control.specs.Sap as sap
use Rattle.ipx_router.specs.RouterPackets.{IsOwnPacket, sending_of}
use Rattle.ipx_router.proofs.Alike.{left_more, left_none, left_over, left_short}
use Rattle.ipx_router.proofs.bodies.add_bodies.Goals as goal

pub loop-body-init : goal.loop-body-init
loop-body-init c = left_none c.args.to c.args.bodies.now c.args.replies.now.items

pub services_packet_with-requires : goal.services_packet_with-requires
services_packet_with-requires c = rw (c.deref.ensures.value)
    (left_short c.args.to c.args.bodies.now c.args.replies.now.items c.loop-body.body-index c.loop-body.replies.items c.loop-body.invariant c.body-item.result c.body-item.is c.loop-body-test.true c.requires)

pub loop-body-preserved : goal.loop-body-preserved
loop-body-preserved c =
    let body = c.body-item.result in
    let reply = c.in_ok-services_packet_with.field-0 in
    rw (c.in_ok-push.ensures.items)
    (left_more c.args.to c.args.bodies.now c.args.replies.now.items c.loop-body.body-index c.loop-body.replies.items c.loop-body.invariant body c.body-item.is c.loop-body-test.true reply
    (λ services says.
    let own : IsOwnPacket c.args.to packet_exchange_type sap_socket (λ b. b ≡ c.deref.result.now) (sending_of reply) = c.in_ok-services_packet_with.ensures in
    record {
      port = own.port;
      next = own.next;
      body = own.body;
      says = subst (λ (b : List ℕ). IsSap (sap.Response false services) b []) (sym (own.says ∙ c.deref.ensures.value)) says;
      packet = own.packet;
    }))

pub returns : goal.returns
returns c = left_over c.args.to c.args.bodies.now c.args.replies.now.items c.loop-body.body-index c.loop-body.replies.items c.loop-body.invariant (omega (arith, c.loop-body-test.false))
