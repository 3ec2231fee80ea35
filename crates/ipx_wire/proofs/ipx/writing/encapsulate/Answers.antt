use Rattle.ipx_wire.proofs.Encapsulated.{after_header, packet_in_place}
use Rattle.ipx_wire.proofs.ipx.writing.encapsulate.Goals as goal

pub returns-clause-written : goal.returns-clause-written
returns-clause-written c =
    packet_in_place c.args.header.now c.args.body_length c.args.out.now _ c.put_header.ensures.range c.requires.limit c.requires.room c.put_header.ensures.written

pub returns-clause-rest : goal.returns-clause-rest
returns-clause-rest c = after_header c.args.header.now _ c.args.out.now _ c.put_header.ensures.range c.put_header.ensures.written
