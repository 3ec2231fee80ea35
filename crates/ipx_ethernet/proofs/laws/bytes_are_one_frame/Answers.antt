use Rattle.ipx_ethernet.proofs.Unique.{one_frame}
use Rattle.ipx_ethernet.proofs.laws.bytes_are_one_frame.Goals as goal

pub returns : goal.returns
returns c = one_frame c.bytes_are_one_packet.ensures c.packet_before_any_bytes.ensures
