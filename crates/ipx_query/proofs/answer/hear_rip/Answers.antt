use Rattle.std.proofs.Common.{ap, nat_lt}
use Rattle.ipx_query.proofs.AnswerSteps.{rip_heard, rip_needs}
use Rattle.ipx_query.proofs.answer.hear_rip.Goals as goal

pub returns-in-Ok-Response-clause-answer : goal.returns-in-Ok-Response-clause-answer
returns-in-Ok-Response-clause-answer c =
    let found = rw c.in-Ok-Response.field-0-is at c.in-Ok-Response.ensures.found in
    rip_heard c.args.own c.args.node c.args.now c.args.routes.now c.args.body.now found.0 c.in-Ok-Response.entries c.source_of.result c.source_of.ensures (nat_lt c.len-ended.result 50) (ap (λ count. nat_lt count 50) c.len-ended.ensures) c.in-Ok-Response.ensures.whole found.1 c.hear_routes-heard.new.routes c.hear_routes-heard.ensures.capacity
    c.hear_routes-heard.result c.outcome_of.result c.hear_routes-heard.ensures.heard c.hear_routes-heard.ensures.refused c.outcome_of.ensures.answer

pub returns-in-Ok-Response-clause-refused : goal.returns-in-Ok-Response-clause-refused
returns-in-Ok-Response-clause-refused c =
    let found = rw c.in-Ok-Response.field-0-is at c.in-Ok-Response.ensures.found in
    rip_needs c.args.own c.args.node c.args.now c.args.routes.now c.args.body.now found.0 c.in-Ok-Response.entries c.source_of.result c.source_of.ensures (nat_lt c.len-ended.result 50) (ap (λ count. nat_lt count 50) c.len-ended.ensures) c.in-Ok-Response.ensures.whole found.1 c.hear_routes-heard.new.routes c.hear_routes-heard.ensures.capacity
    c.hear_routes-heard.result c.outcome_of.result c.hear_routes-heard.ensures.refused c.outcome_of.ensures.refused
