use Rattle.theory_processes.proofs.hosts.timely_input_is_read.Goals as goal

pub returns : goal.returns
returns c file to input run start last calls host new course spaced differ inside runs =
    let it = c.timely_courses_are_fresh.ensures start last calls new course spaced inside in
    let s = it.1.scene in
    (s, it.1.reached, it.1.shows, c.sent_input_is_read.ensures file to input run start.site last.site _ host it.0 differ inside runs s it.1.reached it.1.shows it.1.fresh)
