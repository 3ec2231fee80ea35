use Rattle.ipx_carrier.proofs.PriorityLeaving.{forwarded_first}
use Rattle.ipx_carrier.proofs.priority_router_core.forwarded_packets_leave_first.Goals as goal

pub returns : goal.returns
returns c = forwarded_first
