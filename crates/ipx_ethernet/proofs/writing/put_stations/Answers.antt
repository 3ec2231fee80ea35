use Rattle.std.proofs.Common.{refl, rules, ◌++◌}
use Rattle.byteorder.specs.Endian.{big_bytes}
use Rattle.ipx_wire.specs.Ipx.{IsWritten}
use Rattle.ipx_ethernet.proofs.Parts.{write-part, write-rest}
use Rattle.ipx_ethernet.proofs.writing.put_stations.Goals as goal

pub returns-clause-written : goal.returns-clause-written
returns-clause-written c =
    let old = c.args.out.now in
    let first : IsWritten old c.args.to.0 (c.copy_from_slice.new.self ++ _) 6 = record { is = search rules; count = search rules } in
    let second = write-part old _ c.args.from.0 _ c.copy_from_slice-2.new.self 6 6 first (search rules) c.copy_from_slice-2.ensures.after in
    (write-rest old _ (big_bytes 2 c.args.kind) _ c.write_u16.new.buf 12 2 second refl c.write_u16.ensures).is
