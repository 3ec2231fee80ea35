use Rattle.ipx_wire.proofs.Faults.{no_fault_of_packet, packet_without_fault}
use Rattle.ipx_wire.proofs.ipx.laws.ipx_fault_is_of_no_packet.Goals as goal

pub returns-clause-packet : goal.returns-clause-packet
returns-clause-packet c = packet_without_fault

pub returns-clause-no_fault : goal.returns-clause-no_fault
returns-clause-no_fault c = no_fault_of_packet
