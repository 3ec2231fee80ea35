use Rattle.std.proofs.Common.{true}
use Rattle.theory_processes.proofs.programs.route.Goals as goal

pub returns : goal.returns
returns g c = λ ok. let it = c.do_route.ensures.well ok in (it.0, it.1, it.2, it.3, c.rounds_are_calls.ensures.run it.0 it.1 true it.3)
