use Rattle.ipx_ethernet.proofs.Faults.{no_fault}
use Rattle.ipx_ethernet.proofs.laws.frame_has_no_fault.Goals as goal

pub returns : goal.returns
returns c = no_fault c.packet_before_any_bytes.ensures c.ipx_fault_is_of_no_packet.ensures.no_fault
