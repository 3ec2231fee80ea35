use Rattle.spx_messages.proofs.Once.{WireLaws, once}
use Rattle.spx_messages.proofs.laws.datagram_does_one_thing.Goals as goal

laws : goal.After-spx_fault_is_of_no_spx_packet → WireLaws
laws c = record {
  one_packet = c.bytes_are_one_packet.ensures;
  one_spx = c.bytes_are_one_spx_packet.ensures;
  no_ipx_fault = c.ipx_fault_is_of_no_packet.ensures.no_fault;
  no_spx_fault = c.spx_fault_is_of_no_spx_packet.ensures.no_fault;
}

pub returns-clause-answer : goal.returns-clause-answer
returns-clause-answer c =
    λ old new other bytes now a b x y. (once (laws c) old new other bytes now a b x y).answer

pub returns-clause-same : goal.returns-clause-same
returns-clause-same c =
    λ old new other bytes now a b x y. (once (laws c) old new other bytes now a b x y).same

pub returns-clause-heard : goal.returns-clause-heard
returns-clause-heard c =
    λ old new other bytes now a b x y. (once (laws c) old new other bytes now a b x y).heard
