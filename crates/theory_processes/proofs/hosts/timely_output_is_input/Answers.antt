use Rattle.theory_processes.proofs.hosts.timely_output_is_input.Goals as goal

pub returns : goal.returns
returns c file written writes run start last calls host new course spaced differ inside listens =
    let it = c.timely_courses_are_fresh.ensures start last calls new course spaced inside in
    let s = it.1.scene in
    (s, it.1.reached, it.1.shows, c.listened_output_is_input.ensures.output file written writes run start.site last.site _ host new.site it.0 differ inside listens s it.1.reached it.1.shows it.1.fresh)
