use Rattle.std.proofs.Common.{arith}
use Rattle.std.proofs.lemmas.Result.{err_from_is_err_and}
use Rattle.ipx_sim.specs.Going.{SendsNumber}
use Rattle.ipx_sim.proofs.Deeds.{each_number, each_stop_number}
use Rattle.ipx_sim.proofs.rounds.fill.Goals as goal

pub returns-in_err-any : goal.returns-in_err-any
returns-in_err-any c =
    let p = err_from_is_err_and c.from_residual.result c.from_residual.ensures.1 in
    rw (p.1, p.2)
    (each_stop_number (SendsNumber c.args.end) 0 c.loop-number.number c.args.count c.loop-number.number c.loop-number.any _ c.args.net.now c.loop-number.net c.send_number.new.net (omega arith) c.loop-number-test.true c.loop-number.invariant c.in_err-any.ensures)

pub loop-number-preserved : goal.loop-number-preserved
loop-number-preserved c =
    each_number (SendsNumber c.args.end) 0 c.loop-number.number c.loop-number.number c.loop-number.any c.in_ok-any.field-0 c.args.net.now c.loop-number.net c.send_number.new.net (omega arith) c.loop-number.invariant c.in_ok-any.ensures
