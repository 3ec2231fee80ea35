use Rattle.ipx_control.proofs.RipPackets.{no_fault_of_rip, rip_without_fault}
use Rattle.ipx_control.proofs.rip.laws.rip_fault_is_of_no_rip.Goals as goal

pub returns-clause-packet : goal.returns-clause-packet
returns-clause-packet c = rip_without_fault

pub returns-clause-no_fault : goal.returns-clause-no_fault
returns-clause-no_fault c = no_fault_of_rip
