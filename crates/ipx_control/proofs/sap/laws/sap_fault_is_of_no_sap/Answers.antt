use Rattle.ipx_control.proofs.SapPackets.{no_fault_of_sap, sap_without_fault}
use Rattle.ipx_control.proofs.sap.laws.sap_fault_is_of_no_sap.Goals as goal

pub returns-clause-packet : goal.returns-clause-packet
returns-clause-packet c = sap_without_fault

pub returns-clause-no_fault : goal.returns-clause-no_fault
returns-clause-no_fault c = no_fault_of_sap
