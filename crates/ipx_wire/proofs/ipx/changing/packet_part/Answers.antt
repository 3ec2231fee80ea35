use Rattle.ipx_wire.specs.Ipx.{packet_view}
use Rattle.ipx_wire.proofs.RoundTrip.{packet_cut}
use Rattle.ipx_wire.proofs.ipx.changing.packet_part.Goals as goal

pub returns-clause-packet : goal.returns-clause-packet
returns-clause-packet c = packet_cut (packet_view c.args.packet.now) c.args.datagram.now c.requires.0 c.requires.1
