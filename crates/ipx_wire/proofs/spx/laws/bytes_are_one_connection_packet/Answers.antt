use Rattle.ipx_wire.proofs.Connection.{same_connection_packet}
use Rattle.ipx_wire.proofs.spx.laws.bytes_are_one_connection_packet.Goals as goal

pub returns : goal.returns
returns c = same_connection_packet
