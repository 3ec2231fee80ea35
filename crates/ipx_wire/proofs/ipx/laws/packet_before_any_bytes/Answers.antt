use Rattle.ipx_wire.proofs.RoundTrip.{packet_more}
use Rattle.ipx_wire.proofs.ipx.laws.packet_before_any_bytes.Goals as goal

pub returns : goal.returns
returns c = packet_more
