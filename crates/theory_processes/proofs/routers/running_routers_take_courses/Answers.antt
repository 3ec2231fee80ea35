use Rattle.theory_processes.proofs.Joining.{take_course}
use Rattle.theory_processes.proofs.routers.running_routers_take_courses.Goals as goal

pub returns : goal.returns
returns c = take_course c.site_calls_are_router_calls.ensures
