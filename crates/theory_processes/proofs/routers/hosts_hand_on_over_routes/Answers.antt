use Rattle.theory_processes.proofs.routers.hosts_hand_on_over_routes.Goals as goal

pub returns : goal.returns
returns c = λ calls hosts ends cores course. (
  c.courses_are_scenes.ensures course.start course.site course.steps course.new course.course,
  λ inside differ s reached shows fresh. c.processes_hand_on.ensures s course.site reached shows differ (course.inside inside) fresh,
)
