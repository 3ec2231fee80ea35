use Rattle.std.proofs.Common.{Bool, Ok, subst}
use Rattle.ipx_sim.specs.Going.{TakesOnce}
use Rattle.ipx_sim.proofs.Deeds.{going_more}
use Rattle.ipx_sim.proofs.taking.drain.Goals as goal

pub loop-preserved : goal.loop-preserved
loop-preserved c =
    let more = subst (λ (b : Bool). TakesOnce c.args.end c.loop.net (Ok b) c.take_some.new.net) c.if-not-taken.false c.in_ok-taken.ensures in
    going_more (TakesOnce c.args.end) c.args.net.now c.loop.net c.take_some.new.net c.loop.counter c.loop.any c.loop.invariant more
