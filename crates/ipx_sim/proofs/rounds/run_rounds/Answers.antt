use Rattle.std.proofs.Common.{Bool, Ok, subst, arith}
use Rattle.std.proofs.lemmas.Result.{err_from_is_err_and}
use Rattle.ipx_sim.specs.Delivering.{Stage, delivered_view}
use Rattle.ipx_sim.specs.Going.{RunRound}
use Rattle.ipx_sim.proofs.Deeds.{ends_all, ends_quiet, ends_stopped, going_more}
use Rattle.ipx_sim.proofs.rounds.run_rounds.Goals as goal

pub returns-in_err-more : goal.returns-in_err-more
returns-in_err-more c =
    let before : Stage = record { net = c.args.net.now; delivered = delivered_view c.args.delivered.now } in
    let now : Stage = record { net = c.loop.net; delivered = delivered_view c.loop.delivered } in
    let new : Stage = record { net = c.run_round.new.net; delivered = delivered_view c.run_round.new.delivered } in
    let p = err_from_is_err_and c.from_residual.result c.from_residual.ensures.1 in
    rw (p.1, p.2)
    (ends_stopped (RunRound c.args.map.now.members.items c.args.map.now.spots.items c.args.takes) before now new c.loop.counter c.args.rounds c.loop.any c.in_err-more.field-0.0 c.loop.invariant c.loop-test.true c.in_err-more.ensures)

pub returns-then-not-more : goal.returns-then-not-more
returns-then-not-more c =
    let before : Stage = record { net = c.args.net.now; delivered = delivered_view c.args.delivered.now } in
    let now : Stage = record { net = c.loop.net; delivered = delivered_view c.loop.delivered } in
    let new : Stage = record { net = c.run_round.new.net; delivered = delivered_view c.run_round.new.delivered } in
    let quiet = subst (λ (b : Bool). RunRound c.args.map.now.members.items c.args.map.now.spots.items c.args.takes now (Ok b) new) c.if-not-more.true c.in_ok-more.ensures in
    ends_quiet (RunRound c.args.map.now.members.items c.args.map.now.spots.items c.args.takes) before now new c.loop.counter c.args.rounds c.loop.any c.loop.invariant c.loop-test.true quiet

pub loop-preserved : goal.loop-preserved
loop-preserved c =
    let before : Stage = record { net = c.args.net.now; delivered = delivered_view c.args.delivered.now } in
    let now : Stage = record { net = c.loop.net; delivered = delivered_view c.loop.delivered } in
    let new : Stage = record { net = c.run_round.new.net; delivered = delivered_view c.run_round.new.delivered } in
    let more = subst (λ (b : Bool). RunRound c.args.map.now.members.items c.args.map.now.spots.items c.args.takes now (Ok b) new) c.if-not-more.false c.in_ok-more.ensures in
    going_more (RunRound c.args.map.now.members.items c.args.map.now.spots.items c.args.takes) before now new c.loop.counter c.loop.any c.loop.invariant more

pub returns : goal.returns
returns c =
    let before : Stage = record { net = c.args.net.now; delivered = delivered_view c.args.delivered.now } in
    let now : Stage = record { net = c.loop.net; delivered = delivered_view c.loop.delivered } in
    ends_all (RunRound c.args.map.now.members.items c.args.map.now.spots.items c.args.takes) before now c.loop.counter c.args.rounds c.loop.any c.loop.invariant (omega arith)
