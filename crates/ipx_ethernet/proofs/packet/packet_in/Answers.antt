use Rattle.ipx_wire.specs.Ipx.{packet_view}
use Rattle.ipx_ethernet.proofs.Packets.{packet_alone}
use Rattle.ipx_ethernet.proofs.packet.packet_in.Goals as goal

pub returns-clause-packet : goal.returns-clause-packet
returns-clause-packet c = let found = c.in_ok-packet.ensures.found in (packet_view c.in_ok-packet.packet, packet_alone (packet_view c.in_ok-packet.packet) c.args.bytes.now found.0 found.1)
