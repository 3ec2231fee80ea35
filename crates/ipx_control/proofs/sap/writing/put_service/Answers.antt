use Rattle.std.proofs.Common.{refl, rules}
use Rattle.byteorder.specs.Endian.{big_bytes}
use Rattle.ipx_wire.specs.Ipx.{IsWritten, address_bytes}
use Rattle.ipx_control.proofs.SapPackets.{length-address}
use Rattle.ipx_control.proofs.Parts.{write-part, write-rest}
use Rattle.ipx_control.proofs.sap.writing.put_service.Goals as goal

pub returns-clause-written : goal.returns-clause-written
returns-clause-written c =
    let old = c.args.out.now in
    let e = c.args.entry in
    let first : IsWritten old (big_bytes 2 e.kind) c.write_u16.new.buf 2 = record { is = c.write_u16.ensures; count = refl } in
    let second = write-part old _ e.name _ c.copy_from_slice.new.self 2 48 first (search rules) c.copy_from_slice.ensures.after in
    let third = write-rest old _ (address_bytes e.at) _ c.put_address.new.out 50 12 second (length-address e.at c.put_address.ensures.range.node) c.put_address.ensures.written in
    (write-rest old _ (big_bytes 2 e.hops) _ c.write_u16-2.new.buf 62 2 third refl c.write_u16-2.ensures).is
