use Rattle.std.proofs.Common.{refl, rules, [], ◌∷◌}
use Rattle.byteorder.specs.Endian.{big_bytes}
use Rattle.ipx_wire.specs.Ipx.{IsWritten}
use Rattle.ipx_tunnels.specs.Tunnels.{cookie_bytes, sublayer_bytes}
use Rattle.ipx_tunnels.proofs.Headers.{four_fields}
use Rattle.ipx_tunnels.proofs.header.put_l2tpv3.Goals as goal

pub returns-clause-written : goal.returns-clause-written
returns-clause-written c =
    let old = c.args.out.now in
    let s = c.args.session.now in
    let none : IsWritten old [] old 0 = record { is = search rules; count = refl } in
    let begin = c.put_field-begin.ensures.written old _ none in
    let id = c.put_field-id.ensures.written old _ begin in
    let cookie = c.put_field-cookie.ensures.written old _ id in
    let more = c.put_field.ensures.written old _ cookie in
    four_fields old (0 ∷ 3 ∷ 0 ∷ 0 ∷ []) c.to_be_bytes.result c.bytes.result.now c.sublayer_bytes.result.now (big_bytes 4 s.peer_id) (cookie_bytes s.peer_cookie) (sublayer_bytes s.sublayer) c.put_field.new.out c.put_field.result
    more c.to_be_bytes.ensures c.bytes.ensures.bytes c.sublayer_bytes.ensures
