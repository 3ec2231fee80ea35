use Rattle.std.proofs.Common.{◌≡◌, ◌∙◌, ℕ, arith, false, length, nat_eq, subst, sym, true}
use Rattle.std.specs.Prelude.{vec_len}
use Rattle.ipx_control.specs.Sap as sap
use Rattle.ipx_router.specs.RouterPackets.{AreServicePackets, IsSapPacket}
use Rattle.ipx_router.proofs.Cuts.{none_left}
use Rattle.ipx_router.proofs.Packed.{packed_done, packed_whole}
use Rattle.ipx_router.proofs.packing.ServicePackets.finish.Goals as goal

pub returns-then-is_empty-clause-packets : goal.returns-then-is_empty-clause-packets
returns-then-is_empty-clause-packets c = λ entries h.
    let hand = c.args.self.hand in
    let count : vec_len hand ≡ length hand.items = omega (arith, hand.ok) in
    packed_whole 7 (λ part. IsSapPacket c.args.self.to (sap.Response false part)) entries c.args.self.sent.items hand.items h
    (none_left hand.items (subst (λ (n : ℕ). nat_eq n 0 ≡ true) count (sym c.is_empty.ensures ∙ c.if-is_empty.true)))

pub returns-clause-packets : goal.returns-clause-packets
returns-clause-packets c = λ entries h.
    let adds = rw c.deref.ensures.value at c.in_ok-add_service_packets.ensures in
    packed_done (AreServicePackets c.args.self.to false) entries c.args.self.sent.items c.args.self.hand.items h c.add_service_packets.new.replies.items adds
