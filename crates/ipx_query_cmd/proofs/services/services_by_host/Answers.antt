use Rattle.ipx_query.specs.QueryEnds.{ask_status}
use Rattle.ipx_query_cmd.proofs.Rows.{status_of_host}
use Rattle.ipx_query_cmd.proofs.services.services_by_host.Goals as goal

pub returns-in-Ok-clause-listed : goal.returns-in-Ok-clause-listed
returns-in-Ok-clause-listed g c = λ zero.
    let host = c.in-Ok.asked.host.core in
    let lines = c.print_asked.ensures.listed zero in
    (host, c.in-Ok.asked.over, lines.0, c.in-Ok.ensures.asked, status_of_host c.print_asked.result (ask_status host) c.print_asked.ensures.status zero, lines.1, lines.2)
