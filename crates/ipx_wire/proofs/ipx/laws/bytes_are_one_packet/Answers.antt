use Rattle.ipx_wire.proofs.RoundTrip.{same_packet}
use Rattle.ipx_wire.proofs.ipx.laws.bytes_are_one_packet.Goals as goal

pub returns : goal.returns
returns c = same_packet
