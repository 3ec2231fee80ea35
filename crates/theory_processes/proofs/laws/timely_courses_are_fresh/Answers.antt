use Rattle.theory_processes.proofs.Clocked.{timely}
use Rattle.theory_processes.proofs.laws.timely_courses_are_fresh.Goals as goal

pub returns : goal.returns
returns c = timely (record { deeds = c.steps_are_deeds.ensures.deeds; order = c.steps_are_deeds.ensures.order }) c.numbers_are_in_order.ensures c.calls_are_deeds.ensures.shows
