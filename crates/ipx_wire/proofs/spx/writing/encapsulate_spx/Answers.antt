use Rattle.ipx_wire.proofs.Encapsulated.{spx_clear_in_place, spx_packet_in_place}
use Rattle.ipx_wire.proofs.spx.writing.encapsulate_spx.Goals as goal

pub returns-clause-written : goal.returns-clause-written
returns-clause-written c =
    spx_packet_in_place c.args.header.now c.args.body_length c.args.out.now _ c.put_header.ensures.range c.requires.limit c.requires.room c.put_header.ensures.written

pub returns-clause-clear : goal.returns-clause-clear
returns-clause-clear c =
    spx_clear_in_place c.args.header.now c.args.body_length c.args.out.now _ c.requires.room c.put_header.ensures.written
