use Rattle.std.proofs.Common.{arith}
use Rattle.ipx_control.specs.Rip as rip
use Rattle.ipx_router.specs.RouterPackets.{IsRipPacket, sending_of}
use Rattle.ipx_router.proofs.Packed.{packed_close}
use Rattle.ipx_router.proofs.packing.RoutePackets.close.Goals as goal

pub returns-clause-closed : goal.returns-clause-closed
returns-clause-closed c = λ entries h.
    let hand = c.args.self.now.hand.items in
    let r = c.in_ok-packet.packet in
    let is : IsRipPacket c.args.self.now.to (rip.Response hand) (sending_of r) = rw c.deref.ensures.value at c.in_ok-packet.ensures in
    rw (c.in_ok-push.ensures.items, c.clear.ensures.items)
    (packed_close 50 (λ part. IsRipPacket c.args.self.now.to (rip.Response part)) entries c.args.self.now.sent.items hand h r c.requires (omega arith) is)
