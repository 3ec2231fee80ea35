use Rattle.std.proofs.Common.{refl, rules}
use Rattle.byteorder.specs.Endian.{big_bytes}
use Rattle.ipx_wire.specs.Ipx.{IsWritten}
use Rattle.ipx_wire.proofs.Parts.{write-part, write-rest}
use Rattle.ipx_wire.proofs.address.bytes.put_address.Goals as goal

pub returns-clause-written : goal.returns-clause-written
returns-clause-written c =
    let old = c.args.out.now in
    let a = c.args.address in
    let first : IsWritten old (big_bytes 4 a.network.0) c.write_u32.new.buf 4 = record { is = c.write_u32.ensures; count = refl } in
    let second = write-part old _ a.node.0 _ c.copy_from_slice.new.self 4 6 first (search rules) c.copy_from_slice.ensures.after in
    (write-rest old _ (big_bytes 2 a.socket.0) _ c.write_u16.new.buf 10 2 second refl c.write_u16.ensures).is
