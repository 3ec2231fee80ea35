use Rattle.std.proofs.Common.{◌≡◌, ℕ, List, [], arith, drop, take, subst, sym}
use Rattle.std.proofs.lemmas.List.{take_at}
use Rattle.ipx_wire.specs.Ipx.{IsIpx, packet_of}
use Rattle.ipx_router.specs.Forward.{IsForwarded, forward_packet}
use Rattle.ipx_router.proofs.Alone.{packet_alone}
use Rattle.ipx_router.proofs.forwarding.change_front.Goals as goal

pub returns-clause-forwarded : goal.returns-clause-forwarded
returns-clause-forwarded c = λ body tail is size.
    let d = packet_of c.args.header body in
    let old = c.args.bytes.now in
    let new = c.forward_in_place.new.bytes in
    let first : IsIpx d (take c.args.count old) [] = subst (λ (n : ℕ). IsIpx d (take n old) []) size (packet_alone d old tail is) in
    let next : IsIpx (forward_packet c.args.arrived d) new [] = c.forward_in_place.ensures body [] first in
    subst (IsForwarded c.args.arrived d) (sym (take_at new (drop c.args.count old) c.args.count (omega (arith, next.size, size)))) (record { packet = next; in_range = c.are_bytes.ensures })
