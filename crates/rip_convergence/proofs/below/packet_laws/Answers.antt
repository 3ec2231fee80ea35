use Rattle.rip_convergence.proofs.below.packet_laws.Goals as goal

pub returns : goal.returns
returns c = record {
  one_ipx = c.bytes_are_one_packet.ensures;
  no_ipx_fault = c.ipx_fault_is_of_no_packet.ensures.no_fault;
  one_rip = c.bytes_are_one_rip.ensures;
  no_rip_fault = c.rip_fault_is_of_no_rip.ensures.no_fault;
}
