use Rattle.std.proofs.Common.{◌≡◌, ◌∙◌, ℕ, List, [], length, arith, subst, sym}
use Rattle.std.proofs.lemmas.List.{with_items_is}
use Rattle.ipx_wire.specs.Ipx.{IsIpx, packet_view}
use Rattle.ipx_router.specs.Forward.{forward_packet}
use Rattle.ipx_router.proofs.forwarding.forwarded_copy.Goals as goal

pub returns : goal.returns
returns c =
    let d = packet_view c.args.packet.now in
    let copied : IsIpx d c.deref_mut.result.now [] = subst (λ (t : List ℕ). IsIpx d t []) (sym (c.deref_mut.ensures.value ∙ c.in_ok-bytes.ensures.items)) c.packet_part.ensures.packet in
    let one_hop_on = c.forward_in_place.ensures d.body [] copied in
    let len : length c.forward_in_place.new.bytes ≡ c.in_ok-bytes.bytes.len = omega (arith, copied.size, one_hop_on.size, c.deref_mut.ensures.len) in
    subst (λ (t : List ℕ). IsIpx (forward_packet c.args.arrived d) t []) (sym (with_items_is c.in_ok-bytes.bytes c.forward_in_place.new.bytes len)) one_hop_on
