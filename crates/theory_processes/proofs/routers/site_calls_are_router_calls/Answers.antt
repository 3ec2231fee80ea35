use Rattle.theory_processes.proofs.RouterCalling.{call_done}
use Rattle.theory_processes.proofs.routers.site_calls_are_router_calls.Goals as goal

pub returns : goal.returns
returns c = call_done c.bytes_are_one_packet.ensures c.bytes_are_one_rip.ensures c.bytes_are_one_sap.ensures
