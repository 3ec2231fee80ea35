use Rattle.std.proofs.lemmas.Result.{err_from_is_err_and}
use Rattle.ipx_sim.specs.Delivering.{DeliversParcelTo}
use Rattle.ipx_sim.proofs.Deeds.{each_at, each_stop_at}
use Rattle.ipx_sim.proofs.delivering.deliver_one.Goals as goal

pub returns-in_err-any : goal.returns-in_err-any
returns-in_err-any c =
    let p = err_from_is_err_and c.from_residual.result c.from_residual.ensures.1 in
    rw (p.1, p.2)
    (each_stop_at (DeliversParcelTo c.args.parcel) c.args.spots.now c.loop-spot.spot-index _ c.loop-spot.any _ c.args.net.now c.loop-spot.net c.deliver_to.new.net c.loop-spot-test.true c.loop-spot.invariant c.in_err-any.ensures)

pub loop-spot-preserved : goal.loop-spot-preserved
loop-spot-preserved c =
    each_at (DeliversParcelTo c.args.parcel) c.args.spots.now c.loop-spot.spot-index _ c.loop-spot.any c.in_ok-any.field-0 c.args.net.now c.loop-spot.net c.deliver_to.new.net c.loop-spot-test.true c.loop-spot.invariant c.in_ok-any.ensures
