use Rattle.ipx_wire.proofs.Connection.{sequence_is}
use Rattle.ipx_wire.proofs.spx.laws.connection_packet_has_its_sequence.Goals as goal

pub returns : goal.returns
returns c = sequence_is
