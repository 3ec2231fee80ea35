use Rattle.std.proofs.Common.{arith, refl, rules}
use Rattle.std.proofs.lemmas.Result.{err_from_is_err_and}
use Rattle.ipx_site.proofs.RanRounds.{rounds_more, took_round}
use Rattle.ipx_site.proofs.running_router.RunningRouter.run.Goals as goal

pub loop-round-init : goal.loop-round-init
loop-round-init g c = refl

pub loop-round-preserved : goal.loop-round-preserved
loop-round-preserved g c =
    let now = c.loop-round.self in
    let new = c.step.new.self in
    let e = c.step.ensures in
    rounds_more c.loop-round._round c.args.self.now now new c.loop-round.invariant
    (took_round now new c.step.result e.core e.fault e.moments e.transmissions e.peers e.port_indices e.access) (first_of (search rules, cc))

pub returns-in_err-step : goal.returns-in_err-step
returns-in_err-step g c =
    let now = c.loop-round.self in
    let new = c.step.new.self in
    let e = c.step.ensures in
    let p = err_from_is_err_and c.from_residual.result c.from_residual.ensures.1 in
    rw (p.1) (
      c.loop-round._round,
      now,
      c.loop-round.invariant,
      took_round now new c.step.result e.core e.fault e.moments e.transmissions e.peers e.port_indices e.access,
      first_of (search rules, cc),
    )

pub returns : goal.returns
returns g c = (c.loop-round._round, omega (arith, c.loop-round-test.false, c.loop-round.auto._round-end), c.loop-round.invariant)
