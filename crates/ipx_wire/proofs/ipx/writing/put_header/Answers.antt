use Rattle.std.proofs.Common.{arith, refl, ◌+◌, [], ◌∷◌}
use Rattle.std.proofs.lemmas.List.{length-append}
use Rattle.byteorder.specs.Endian.{big_bytes}
use Rattle.ipx_wire.specs.Ipx.{IsWritten, address_bytes}
use Rattle.ipx_wire.proofs.Parts.{write-part, write-rest}
use Rattle.ipx_wire.proofs.ipx.writing.put_header.Goals as goal

pub returns-clause-written : goal.returns-clause-written
returns-clause-written c =
    let old = c.args.out.now in
    let h = c.args.header in
    let first : IsWritten old (big_bytes 2 65535) c.write_u16.new.buf 2 = record { is = c.write_u16.ensures; count = refl } in
    let second = write-rest old _ (big_bytes 2 (30 + c.args.body_length)) _ c.write_u16-2.new.buf 2 2 first refl c.write_u16-2.ensures in
    let third = write-part old _ (h.hops ∷ h.kind ∷ []) _ c.copy_from_slice.new.self 4 2 second refl c.copy_from_slice.ensures.after in
    let fourth = write-rest old _ (address_bytes h.to) _ c.put_address.new.out 6 12 third (omega (arith, c.put_address.ensures.range.node, length-append h.to.node.0 (big_bytes 2 h.to.socket.0))) c.put_address.ensures.written in
    (write-rest old _ (address_bytes h.from) _ c.put_address-2.new.out 18 12 fourth (omega (arith, c.put_address-2.ensures.range.node, length-append h.from.node.0 (big_bytes 2 h.from.socket.0))) c.put_address-2.ensures.written).is
