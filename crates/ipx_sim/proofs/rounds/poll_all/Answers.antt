use Rattle.std.proofs.lemmas.Result.{err_from_is_err_and}
use Rattle.ipx_sim.specs.Going.{PollsOut}
use Rattle.ipx_sim.proofs.Deeds.{each_at, each_stop_at}
use Rattle.ipx_sim.proofs.rounds.poll_all.Goals as goal

pub returns-in_err-any : goal.returns-in_err-any
returns-in_err-any c =
    let p = err_from_is_err_and c.from_residual.result c.from_residual.ensures.1 in
    rw (p.1, p.2)
    (each_stop_at PollsOut c.args.members.now c.loop-member.member-index _ c.loop-member.any _ c.args.net.now c.loop-member.net c.poll_out.new.net c.loop-member-test.true c.loop-member.invariant c.in_err-any.ensures)

pub loop-member-preserved : goal.loop-member-preserved
loop-member-preserved c =
    each_at PollsOut c.args.members.now c.loop-member.member-index _ c.loop-member.any c.in_ok-any.field-0 c.args.net.now c.loop-member.net c.poll_out.new.net c.loop-member-test.true c.loop-member.invariant c.in_ok-any.ensures
