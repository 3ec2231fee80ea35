use Rattle.std.proofs.Common.{arith, refl, length, ◌+◌, ◌-◌, ◌≡◌}
use Rattle.ipx_wire.specs.Ipx.{IsWritten, header_bytes, packet_view}
use Rattle.ipx_wire.proofs.Parts.{write-part}
use Rattle.ipx_wire.proofs.RoundTrip.{length-header}
use Rattle.ipx_wire.proofs.ipx.writing.put_packet.Goals as goal

pub returns-clause-written : goal.returns-clause-written
returns-clause-written c =
    let p = packet_view c.args.packet.now in
    let first : IsWritten c.args.out.now (header_bytes p.header (length p.body)) c.put_header.new.out 30 = record { is = c.put_header.ensures.written; count = length-header p.header (length p.body) c.put_header.ensures.range } in
    let same : 30 + length p.body - 30 ≡ length p.body = omega arith in
    rw same (write-part c.args.out.now _ p.body _ c.copy_from_slice.new.self 30 (length p.body) first refl c.copy_from_slice.ensures.after)
