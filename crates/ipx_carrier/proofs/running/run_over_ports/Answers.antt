use Rattle.std.proofs.Common.{rules, arith, refl, length, ◌≡◌}
use Rattle.std.proofs.lemmas.Result.{err_from_is_err_and}
use Rattle.ipx_carrier.proofs.Courses.{ends_more, ran_more, ran_none}
use Rattle.ipx_carrier.proofs.Draining.{drains, takes_more, takes_nothing}
use Rattle.ipx_carrier.proofs.running.run_over_ports.Goals as goal

pub returns-in_err-turn-clause-fault : goal.returns-in_err-turn-clause-fault
returns-in_err-turn-clause-fault g c =
    let p = err_from_is_err_and c.from_residual.result c.from_residual.ensures.1 in
    let ports = g.C.Core.port_count c.args.core.now in
    let here = g.C.Core.port_count c.loop-turn.core in
    rw (p.1, p.2)
    (ends_more g.C.Core.hears g.C.Core.hear_out_of_memory g.C.Core.gives g.C.Core.next_out_of_memory g.K.Clock.tells ports (g.S.PortDriver.transmissions c.args.driver.now) here c.loop-turn._turn c.args.turns _ _ _ _ _ _ _ _ _ _ _ c.loop-turn.report c.loop-turn.invariant.core_ports c.loop-turn.invariant.transmissions (omega arith) c.loop-turn.invariant.ran c.in_err-turn.ensures.fault)

pub returns-in_err-turn-clause-waiting : goal.returns-in_err-turn-clause-waiting
returns-in_err-turn-clause-waiting g c =
    let room : length c.loop-turn.room ≡ 1536 = omega arith in
    drains 1536 _ _ _ _ (takes_more _ 1536 _ _ _ _ _ _ room c.loop-turn.invariant.waiting c.in_err-turn.ensures.waiting)

pub returns-clause-waiting : goal.returns-clause-waiting
returns-clause-waiting g c = drains 1536 _ _ _ _ c.loop-turn.invariant.waiting

pub loop-turn-init : goal.loop-turn-init
loop-turn-init g c = record {
  ran = ran_none g.C.Core.hears g.C.Core.gives g.K.Clock.tells (g.C.Core.port_count c.args.core.now) (g.S.PortDriver.transmissions c.args.driver.now) (g.S.PortDriver.traffic c.args.driver.now) c.args.clock.now c.args.core.now _ refl;
  counted = omega arith;
  heard = omega arith;
  sent = omega arith;
  unmapped = omega arith;
  waiting = takes_nothing 1536 (g.S.PortDriver.traffic c.args.driver.now) (g.S.PortDriver.traffic c.args.driver.now) (g.S.PortDriver.waiting c.args.driver.now) (g.S.PortDriver.waiting c.args.driver.now) refl refl;
  failures = refl;
  core_ports = refl;
  driver_ports = refl;
  transmissions = refl;
  access = refl;
  filtered = omega arith;
  kept = refl;
}

pub loop-turn-preserved : goal.loop-turn-preserved
loop-turn-preserved g c =
    let ports = g.C.Core.port_count c.args.core.now in
    let here = g.C.Core.port_count c.loop-turn.core in
    let turn = c.in_ok-turn.ensures in
    let room : length c.loop-turn.room ≡ 1536 = omega arith in
    record {
      ran = ran_more g.C.Core.hears g.C.Core.gives g.K.Clock.tells ports (g.S.PortDriver.transmissions c.args.driver.now) here c.loop-turn._turn _ _ _ _ _ _ _ _ _ _ c.loop-turn.report c.in_ok-turn.turn c.add-report.result c.loop-turn.invariant.core_ports c.loop-turn.invariant.transmissions c.loop-turn.invariant.ran c.in_ok-turn.ensures.turn c.add-report.ensures;
      counted = rw c.add-report.ensures (omega (arith, turn.one));
      heard = rw c.add-report.ensures (omega (arith, turn.heard));
      sent = rw c.add-report.ensures (omega (arith, turn.sent));
      unmapped = rw c.add-report.ensures (omega (arith, turn.unmapped));
      waiting = takes_more _ 1536 _ _ _ _ _ _ room c.loop-turn.invariant.waiting turn.waiting;
      failures = search rules;
      core_ports = search rules;
      driver_ports = search rules;
      transmissions = search rules;
      access = search rules;
      filtered = omega arith;
      kept = search rules;
    }
