use Rattle.std.proofs.Common.{arith}
use Rattle.std.proofs.lemmas.Result.{err_from_is_err_and}
use Rattle.ipx_sim.specs.Going.{DrainsPresent}
use Rattle.ipx_sim.proofs.Deeds.{each_number, each_stop_number}
use Rattle.ipx_sim.proofs.taking.drain_each.Goals as goal

pub returns-in_err-any : goal.returns-in_err-any
returns-in_err-any c =
    let p = err_from_is_err_and c.from_residual.result c.from_residual.ensures.1 in
    rw (p.1, p.2)
    (each_stop_number DrainsPresent 0 c.loop-end.end c.args.count c.loop-end.end c.loop-end.any _ c.args.net.now c.loop-end.net c.drain_present.new.net (omega arith) c.loop-end-test.true c.loop-end.invariant c.in_err-any.ensures)

pub loop-end-preserved : goal.loop-end-preserved
loop-end-preserved c =
    each_number DrainsPresent 0 c.loop-end.end c.loop-end.end c.loop-end.any c.in_ok-any.field-0 c.args.net.now c.loop-end.net c.drain_present.new.net (omega arith) c.loop-end.invariant c.in_ok-any.ensures
