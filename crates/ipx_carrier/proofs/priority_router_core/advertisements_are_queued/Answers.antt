use Rattle.ipx_carrier.proofs.Advertising.{advertisements_queued}
use Rattle.ipx_carrier.proofs.priority_router_core.advertisements_are_queued.Goals as goal

pub returns : goal.returns
returns c = advertisements_queued
