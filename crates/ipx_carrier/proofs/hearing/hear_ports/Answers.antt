use Rattle.std.proofs.Common.{rules, refl, lit≤, ◌≡◌, ◌≤◌, ◌+◌, cond, arith, length}
use Rattle.std.proofs.lemmas.Result.{err_from_is_err_and}
use Rattle.ipx_carrier.proofs.Asking.{asked_more, asked_none, asked_some}
use Rattle.ipx_carrier.proofs.Draining.{takes_more, takes_nothing}
use Rattle.ipx_carrier.proofs.Marking.{asks_more, asks_none, asks_some}
use Rattle.ipx_carrier.proofs.hearing.hear_ports.Goals as goal
use Rattle.ipx_carrier.proofs.hearing.hear_ports.Goals.{then-branch, else-branch}

pub returns-in_err-hear_port-clause-fault : goal.returns-in_err-hear_port-clause-fault
returns-in_err-hear_port-clause-fault g c =
    let p = err_from_is_err_and c.from_residual.result c.from_residual.ensures.1 in
    rw (p.1, p.2)
    (asked_some g.C.Core.hears g.C.Core.hear_out_of_memory g.S.PortDriver.receives g.S.PortDriver.fails_to_receive c.args.now _ c.loop-port.port _ _ _ _ _ _ _ _ _ c.loop-port.heard _ c.loop-port.invariant.asked c.in_err-hear_port.ensures.fault (omega arith))

pub returns-in_err-hear_port-clause-marks_fault : goal.returns-in_err-hear_port-clause-marks_fault
returns-in_err-hear_port-clause-marks_fault g c =
    let p = err_from_is_err_and c.from_residual.result c.from_residual.ensures.1 in
    rw (p.1, p.2)
    (asks_some g.C.Core.hears g.C.Core.hear_out_of_memory g.S.PortDriver.receives g.S.PortDriver.fails_to_receive g.S.PortDriver.marked c.args.now (length c.args.room.now) _ c.loop-port.port _ _ _ _ _ _ _ _ _ c.loop-port.heard _ c.loop-port.invariant.room c.loop-port.invariant.marks c.in_err-hear_port.ensures.fault c.in_err-hear_port.ensures.marks_stay (omega arith))

pub returns-in_err-hear_port-clause-waiting : goal.returns-in_err-hear_port-clause-waiting
returns-in_err-hear_port-clause-waiting g c =
    takes_more _ _ _ _ _ _ _ _ c.loop-port.invariant.room c.loop-port.invariant.waiting c.in_err-hear_port.ensures.waiting

pub loop-port-init : goal.loop-port-init
loop-port-init g c = record {
  asked = asked_none g.C.Core.hears c.args.now (g.S.PortDriver.traffic c.args.driver.now) c.args.core.now;
  few = lit≤ tt;
  room = refl;
  waiting = takes_nothing _ _ _ _ _ refl refl;
  failures = refl;
  core_ports = refl;
  driver_ports = refl;
  transmissions = refl;
  access = refl;
  filtered = omega arith;
  marks = asks_none g.C.Core.hears g.S.PortDriver.receives g.S.PortDriver.marked c.args.now (length c.args.room.now) c.args.driver.now c.args.core.now;
  kept = refl;
}

pub loop-port-preserved : goal.loop-port-preserved
loop-port-preserved g c =
    let grows : c.if-branch.heard ≡ c.loop-port.heard + cond c.in_ok-hear_port.field-0 1 0 =
    elim c.if-branch.branch [ then-branch w ↦ rw w.if-branch.true w.heard-is | else-branch w ↦ rw (w.if-branch.false) (omega (arith, w.heard-is)) ] in
    let few : c.if-branch.heard ≤ c.loop-port.port + 1 =
    elim c.if-branch.branch [ then-branch w ↦ omega (arith, w.heard-is, c.loop-port.invariant.few) | else-branch w ↦ omega (arith, w.heard-is, c.loop-port.invariant.few) ] in
    record {
      asked = asked_more g.C.Core.hears g.S.PortDriver.receives c.args.now _ c.loop-port.port _ _ _ _ _ _ _ _ c.loop-port.heard c.if-branch.heard c.in_ok-hear_port.field-0 c.loop-port.invariant.asked c.in_ok-hear_port.ensures.heard grows;
      few = few;
      room = search rules;
      waiting = takes_more _ _ _ _ _ _ _ _ c.loop-port.invariant.room c.loop-port.invariant.waiting c.in_ok-hear_port.ensures.waiting;
      failures = search rules;
      core_ports = search rules;
      driver_ports = search rules;
      transmissions = search rules;
      access = search rules;
      filtered = omega arith;
      marks = asks_more g.C.Core.hears g.S.PortDriver.receives g.S.PortDriver.marked c.args.now (length c.args.room.now) _ c.loop-port.port _ _ _ _ _ _ _ _ c.loop-port.heard c.if-branch.heard c.in_ok-hear_port.field-0 c.loop-port.invariant.room c.loop-port.invariant.marks c.in_ok-hear_port.ensures.heard c.in_ok-hear_port.ensures.marks grows;
      kept = search rules;
    }
