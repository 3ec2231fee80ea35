use Rattle.std.proofs.Common.{Bool, Ok, subst}
use Rattle.ipx_sim.specs.Going.{PollsOnce}
use Rattle.ipx_sim.proofs.Deeds.{going_more}
use Rattle.ipx_sim.proofs.rounds.poll_out.Goals as goal

pub loop-preserved : goal.loop-preserved
loop-preserved c =
    let more = subst (λ (b : Bool). PollsOnce c.args.member c.loop.net (Ok b) c.poll_once.new.net) c.if-not-made.false c.in_ok-made.ensures in
    going_more (PollsOnce c.args.member) c.args.net.now c.loop.net c.poll_once.new.net c.loop.counter c.loop.any c.loop.invariant more
