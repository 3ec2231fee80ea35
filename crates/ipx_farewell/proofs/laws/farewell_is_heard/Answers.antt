use Rattle.ipx_farewell.proofs.Forgotten.{PacketLaws, forgotten}
use Rattle.ipx_farewell.proofs.laws.farewell_is_heard.Goals as goal

pub returns : goal.returns
returns c = forgotten (record {
  one_ipx = c.bytes_are_one_packet.ensures;
  no_ipx_fault = c.ipx_fault_is_of_no_packet.ensures.no_fault;
  one_rip = c.bytes_are_one_rip.ensures;
  no_rip_fault = c.rip_fault_is_of_no_rip.ensures.no_fault;
  one_sap = c.bytes_are_one_sap.ensures;
  no_sap_fault = c.sap_fault_is_of_no_sap.ensures.no_fault;
})
