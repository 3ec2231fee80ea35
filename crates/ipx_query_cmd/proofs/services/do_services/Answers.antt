use Rattle.ipx_query_cmd.proofs.services.do_services.Goals as goal

pub returns-in-Some-clause-listed : goal.returns-in-Some-clause-listed
returns-in-Some-clause-listed g c = λ zero.
    let l = c.list_services.ensures.listed zero in
    (l.0, l.1, c.in-Some.kind, l.2, c.in-Some.ensures.known, l.3, l.4)
