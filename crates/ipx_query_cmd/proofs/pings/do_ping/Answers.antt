use Rattle.ipx_query_cmd.proofs.pings.do_ping.Goals as goal

pub returns-in-Ok-clause-pinged : goal.returns-in-Ok-clause-pinged
returns-in-Ok-clause-pinged g c = λ zero.
    let p = c.ping_at.ensures.pinged zero in
    (p.0, p.1, c.in-Ok.to, p.2, p.3, p.4, p.5, p.6, c.in-Ok.ensures.named, p.7, p.8, p.9, p.10)

pub returns-in-Ok-clause-words : goal.returns-in-Ok-clause-words
returns-in-Ok-clause-words g c = λ none. absurd (none c.in-Ok.to c.in-Ok.ensures.named)
