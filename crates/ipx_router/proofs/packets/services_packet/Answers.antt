use Rattle.std.proofs.Common.{◌≡◌, ◌≤◌, ◌+◌, ◌-◌, List, [], ℕ, arith, drop, length, subst}
use Rattle.std.proofs.lemmas.List.{drop_all, length-drop, take_all}
use Rattle.ipx_wire.specs.Assigned.{packet_exchange_type, sap_socket}
use Rattle.ipx_control.specs.Sap.{IsSap}
use Rattle.ipx_control.specs.Sap as sap
use Rattle.ipx_router.proofs.Packed.{own_written, part_written}
use Rattle.ipx_router.proofs.packets.services_packet.Goals as goal

pub returns : goal.returns
returns c =
    let whole = c.deref_mut.result.now in
    let body = c.encode_services_into.new.out in
    let fits : 30 + length body ≡ length whole = omega (arith, c.deref_mut.ensures.len, c.in_ok-bytes.ensures.len) in
    let count : length body ≤ c.encode_services_into.result = omega (arith, c.deref_mut.ensures.len, c.in_ok-bytes.ensures.len, c.encode_services_into.ensures.count) in
    own_written c.args.to packet_exchange_type sap_socket (λ body. IsSap (sap.Response c.args.nearest c.args.services.now) body []) c.closed.result c.header_to-header.result _ body c.closed.ensures.port c.closed.ensures.next c.header_to-header.ensures c.closed.ensures.bytes
    (part_written 30 c.in_ok-bytes.bytes.len whole body (drop (length whole - 30) (drop 30 whole)) c.in_ok-bytes.bytes.items (omega (arith, fits)) fits (omega (arith, c.deref_mut.ensures.len)) (drop_all (length whole - 30) (drop 30 whole) (omega (arith, length-drop 30 whole))))
    (subst (λ (b : List ℕ). IsSap (sap.Response c.args.nearest c.args.services.now) b []) (take_all c.encode_services_into.result body count) c.encode_services_into.ensures.written)
