use Rattle.std.proofs.Common.{◌≡◌, ◌≤◌, ◌+◌, ◌-◌, List, [], ℕ, arith, drop, length, subst}
use Rattle.std.proofs.lemmas.List.{drop_all, length-drop, take_all}
use Rattle.ipx_wire.specs.Assigned.{rip_type, rip_socket}
use Rattle.ipx_control.specs.Rip.{IsRip}
use Rattle.ipx_control.specs.Rip as rip
use Rattle.ipx_router.proofs.Packed.{own_written, part_written}
use Rattle.ipx_router.proofs.packets.routes_packet.Goals as goal

pub returns : goal.returns
returns c =
    let whole = c.deref_mut.result.now in
    let body = c.encode_routes_into.new.out in
    let fits : 30 + length body ≡ length whole = omega (arith, c.deref_mut.ensures.len, c.in_ok-bytes.ensures.len) in
    let count : length body ≤ c.encode_routes_into.result = omega (arith, c.deref_mut.ensures.len, c.in_ok-bytes.ensures.len, c.encode_routes_into.ensures.count) in
    own_written c.args.to rip_type rip_socket (λ body. IsRip (rip.Response c.args.routes.now) body []) c.closed.result c.header_to-header.result _ body c.closed.ensures.port c.closed.ensures.next c.header_to-header.ensures c.closed.ensures.bytes
    (part_written 30 c.in_ok-bytes.bytes.len whole body (drop (length whole - 30) (drop 30 whole)) c.in_ok-bytes.bytes.items (omega (arith, fits)) fits (omega (arith, c.deref_mut.ensures.len)) (drop_all (length whole - 30) (drop 30 whole) (omega (arith, length-drop 30 whole))))
    (subst (λ (b : List ℕ). IsRip (rip.Response c.args.routes.now) b []) (take_all c.encode_routes_into.result body count) c.encode_routes_into.ensures.written)
