use Rattle.ipx_inspect.proofs.Readings.{Layouts, readings_are_one}
use Rattle.ipx_inspect.proofs.laws.reading_is_one.Goals as goal

pub returns : goal.returns
returns c =
    let layouts : Layouts = record {
      one_ipx = c.bytes_are_one_packet.ensures;
      one_spx = c.bytes_are_one_spx_packet.ensures;
      one_rip = c.bytes_are_one_rip.ensures;
      one_sap = c.bytes_are_one_sap.ensures;
      no_ipx_fault = c.ipx_fault_is_of_no_packet.ensures.no_fault;
      no_spx_fault = c.spx_fault_is_of_no_spx_packet.ensures.no_fault;
      no_rip_fault = c.rip_fault_is_of_no_rip.ensures.no_fault;
      no_sap_fault = c.sap_fault_is_of_no_sap.ensures.no_fault;
    } in
    readings_are_one layouts
