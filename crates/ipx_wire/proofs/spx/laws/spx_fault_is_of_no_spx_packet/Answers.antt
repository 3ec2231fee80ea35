use Rattle.ipx_wire.proofs.Faults.{no_fault_of_spx_packet, spx_packet_without_fault}
use Rattle.ipx_wire.proofs.spx.laws.spx_fault_is_of_no_spx_packet.Goals as goal

pub returns-clause-packet : goal.returns-clause-packet
returns-clause-packet c = spx_packet_without_fault

pub returns-clause-no_fault : goal.returns-clause-no_fault
returns-clause-no_fault c = no_fault_of_spx_packet
