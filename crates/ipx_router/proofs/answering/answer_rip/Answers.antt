use Rattle.ipx_wire.specs.Ipx.{packet_view}
use Rattle.ipx_router.specs.Knowledge.{routes_in}
use Rattle.ipx_router.proofs.Receiving.{rip_heard, rip_needs}
use Rattle.ipx_router.proofs.answering.answer_rip.Goals as goal

pub returns-in-Ok-Response-clause-answer : goal.returns-in-Ok-Response-clause-answer
returns-in-Ok-Response-clause-answer c =
    let found = rw c.in-Ok-Response.field-0-is at c.in-Ok-Response.ensures.found in
    rip_heard c.args.ports.now (routes_in c.args.routes.now) c.args.at (packet_view c.args.packet) found.0 c.in-Ok-Response.entries c.neighbour_of-source.result c.neighbour_of-source.ensures c.in-Ok-Response.ensures.whole found.1 c.hear_routes-heard.new.routes
    c.hear_routes-heard.result c.outcome_of_hearing.result c.hear_routes-heard.ensures.heard c.hear_routes-heard.ensures.refused c.outcome_of_hearing.ensures.answer

pub returns-in-Ok-Response-clause-refused : goal.returns-in-Ok-Response-clause-refused
returns-in-Ok-Response-clause-refused c =
    let found = rw c.in-Ok-Response.field-0-is at c.in-Ok-Response.ensures.found in
    rip_needs c.args.ports.now (routes_in c.args.routes.now) c.args.at (packet_view c.args.packet) found.0 c.in-Ok-Response.entries c.neighbour_of-source.result c.neighbour_of-source.ensures c.in-Ok-Response.ensures.whole found.1 c.hear_routes-heard.new.routes
    c.hear_routes-heard.result c.outcome_of_hearing.result c.hear_routes-heard.ensures.refused c.outcome_of_hearing.ensures.refused

pub returns-in-Ok-Response-clause-sources : goal.returns-in-Ok-Response-clause-sources
returns-in-Ok-Response-clause-sources c = λ count port from. c.hear_routes-heard.ensures.sources count (rw c.neighbour_of-source.ensures port) from
