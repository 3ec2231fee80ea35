use Rattle.std.proofs.Common.{◌∙◌, ap}
use Rattle.std.specs.Prelude.{slice_get}
use Rattle.theory_processes.proofs.routers.transfers_pass_over_routes.Goals as goal

pub returns-clause-sent : goal.returns-clause-sent
returns-clause-sent c = λ calls hosts ends cores course inside differ file to input run host at s reached shows fresh.
    c.sent_input_is_read.ensures file to input run course.start course.site course.steps host course.course differ (course.inside inside)
    (record { sources = at.sources; are = course.same host ∙ at.are; ends = course.ends_are host run.start (ap (λ hs. slice_get hs host) course.hosts_are ∙ at.begins) ∙ at.ended })
    s reached shows fresh

pub returns-clause-listened : goal.returns-clause-listened
returns-clause-listened c = λ calls hosts ends cores course inside differ file written writes run host at s reached shows fresh.
    c.listened_output_is_input.ensures.output file written writes run course.start course.site course.steps host course.new course.course differ (course.inside inside)
    (record { sources = at.sources; are = course.same host ∙ at.are; ends = course.ends_are host run.start (ap (λ hs. slice_get hs host) course.hosts_are ∙ at.begins) ∙ at.ended })
    s reached shows fresh

pub returns-clause-both_end_well : goal.returns-clause-both_end_well
returns-clause-both_end_well c = λ calls hosts ends cores course differ file to input run host at.
    c.listened_output_is_input.ensures.both_end_well file to input run course.start course.site course.steps host course.course differ
    (record { sources = at.sources; are = course.same host ∙ at.are; ends = course.ends_are host run.start (ap (λ hs. slice_get hs host) course.hosts_are ∙ at.begins) ∙ at.ended })
