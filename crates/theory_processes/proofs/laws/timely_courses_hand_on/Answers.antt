use Rattle.theory_processes.proofs.laws.timely_courses_hand_on.Goals as goal

pub returns : goal.returns
returns c start last calls new course spaced inside differ =
    let it = (c.timely_courses_are_fresh.ensures start last calls new course spaced inside).1 in
    record { scene = it.scene; reached = it.reached; shows = it.shows; transfers = c.processes_hand_on.ensures it.scene last.site it.reached it.shows differ inside it.fresh }
