use Rattle.ipx_ethernet_ports.proofs.taking.take_packet.Goals as goal

pub returns-in-Err-clause-taken : goal.returns-in-Err-clause-taken
returns-in-Err-clause-taken c = (
  c.in-Err.field-0,
  rw c.in-Err.is at c.hear-way.ensures.kept,
  (λ packet is. rw c.in-Err.is at (c.hear-way.ensures.only packet is)),
  rw c.in-Err.is at c.hear-way.ensures.keeping,
)
