use Rattle.std.proofs.Common.{ap, nat_lt}
use Rattle.ipx_query.proofs.AnswerSteps.{sap_heard, sap_needs}
use Rattle.ipx_query.proofs.answer.hear_sap.Goals as goal

pub returns-in-Ok-Response-clause-answer : goal.returns-in-Ok-Response-clause-answer
returns-in-Ok-Response-clause-answer c =
    let found = rw c.in-Ok-Response.field-0-is at c.in-Ok-Response.ensures.found in
    sap_heard c.args.node c.args.now c.args.services.now c.args.body.now found.0 c.in-Ok-Response.field-0-0 c.in-Ok-Response.entries c.source_of.result c.source_of.ensures (nat_lt c.len-ended.result 7) (ap (λ count. nat_lt count 7) c.len-ended.ensures) c.in-Ok-Response.ensures.whole found.1 c.hear_services-heard.new.services c.hear_services-heard.ensures.capacity
    c.hear_services-heard.result c.outcome_of.result c.hear_services-heard.ensures.heard c.hear_services-heard.ensures.refused c.outcome_of.ensures.answer

pub returns-in-Ok-Response-clause-refused : goal.returns-in-Ok-Response-clause-refused
returns-in-Ok-Response-clause-refused c =
    let found = rw c.in-Ok-Response.field-0-is at c.in-Ok-Response.ensures.found in
    sap_needs c.args.node c.args.now c.args.services.now c.args.body.now found.0 c.in-Ok-Response.field-0-0 c.in-Ok-Response.entries c.source_of.result c.source_of.ensures (nat_lt c.len-ended.result 7) (ap (λ count. nat_lt count 7) c.len-ended.ensures) c.in-Ok-Response.ensures.whole found.1 c.hear_services-heard.new.services c.hear_services-heard.ensures.capacity
    c.hear_services-heard.result c.outcome_of.result c.hear_services-heard.ensures.refused c.outcome_of.ensures.refused
