use Rattle.std.proofs.Common.{[], ◌∷◌, arith, refl}
use Rattle.std.proofs.lemmas.Result.{err_from_is_err_and}
use Rattle.ipx_query_cmd.proofs.query_host.QueryHost.turn.Goals as goal

pub returns-clause-asks : goal.returns-clause-asks
returns-clause-asks g c =
    let r = c.in_ok-active.ensures.turn in
    (r.0, ((c.turn.new.core, r.1, refl), (r.2.0, omega (arith, r.2.1)), (c.turn.new.self.ports, r.3, refl)), r.4)

pub returns-in_err-active-clause-fault : goal.returns-in_err-active-clause-fault
returns-in_err-active-clause-fault g c =
    let p = err_from_is_err_and c.from_residual.result c.from_residual.ensures.1 in
    rw (p.1, p.2) c.in_err-active.ensures.fault
