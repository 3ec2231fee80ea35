use Rattle.std.proofs.Common.{length}
use Rattle.std.proofs.lemmas.Result.{err_from_is_err_and}
use Rattle.ipx_carrier.proofs.Courses.{ends_hearing, ends_sending, ran_one}
use Rattle.ipx_carrier.proofs.Draining.{takes_sent}
use Rattle.ipx_carrier.proofs.Marking.{fault_hearing, fault_sending, turn_follows}
use Rattle.ipx_carrier.proofs.running.run_once_in.Goals as goal

pub returns-in_err-heard-clause-marks_fault : goal.returns-in_err-heard-clause-marks_fault
returns-in_err-heard-clause-marks_fault g c =
    let p = err_from_is_err_and c.from_residual.result c.from_residual.ensures.1 in
    rw (p.1, p.2)
    (fault_hearing g.C.Core.hears g.C.Core.hear_out_of_memory g.C.Core.gives g.C.Core.next_out_of_memory g.K.Clock.tells g.S.PortDriver.receives g.S.PortDriver.sends g.S.PortDriver.fails_to_receive g.S.PortDriver.fails_to_send g.S.PortDriver.marked (g.C.Core.port_count c.args.core.now) (length c.args.room.now) (g.S.PortDriver.transmissions c.args.driver.now) c.now-now.result _ _ _ _ _ _ _ c.now-now.ensures c.in_err-heard.ensures.marks_fault)

pub returns-in_err-totals-clause-marks_fault : goal.returns-in_err-totals-clause-marks_fault
returns-in_err-totals-clause-marks_fault g c =
    let p = err_from_is_err_and c.from_residual-in_err-totals.result c.from_residual-in_err-totals.ensures.1 in
    rw (p.1, p.2)
    (fault_sending g.C.Core.hears g.C.Core.hear_out_of_memory g.C.Core.gives g.C.Core.next_out_of_memory g.K.Clock.tells g.S.PortDriver.receives g.S.PortDriver.sends g.S.PortDriver.fails_to_receive g.S.PortDriver.fails_to_send g.S.PortDriver.marked (g.C.Core.port_count c.args.core.now) (length c.args.room.now) (g.S.PortDriver.transmissions c.args.driver.now) c.now-now.result _ _ _ _ _ _ _ _ _ _ _ _ c.in_ok-heard.heard c.now-now.ensures c.in_ok-heard.ensures.transmissions c.in_ok-heard.ensures.marks c.in_err-totals.ensures.fault c.in_err-totals.ensures.marks)

pub returns-clause-marks : goal.returns-clause-marks
returns-clause-marks g c =
    turn_follows g.C.Core.hears g.C.Core.gives g.K.Clock.tells g.S.PortDriver.receives g.S.PortDriver.sends g.S.PortDriver.marked (g.C.Core.port_count c.args.core.now) (length c.args.room.now) (g.S.PortDriver.transmissions c.args.driver.now) c.now-now.result _ _ _ _ _ _ _ _ _ _ _ c.in_ok-heard.heard c.in_ok-totals.totals c.now-now.ensures c.in_ok-heard.ensures.transmissions c.in_ok-heard.ensures.marks c.in_ok-totals.ensures.sent c.in_ok-totals.ensures.marks

pub returns-in_err-heard-clause-fault : goal.returns-in_err-heard-clause-fault
returns-in_err-heard-clause-fault g c =
    let p = err_from_is_err_and c.from_residual.result c.from_residual.ensures.1 in
    rw (p.1, p.2)
    (ends_hearing g.C.Core.hears g.C.Core.hear_out_of_memory g.C.Core.gives g.C.Core.next_out_of_memory g.K.Clock.tells (g.C.Core.port_count c.args.core.now) (g.S.PortDriver.transmissions c.args.driver.now) c.now-now.result _ _ _ _ _ _ _ c.now-now.ensures c.in_err-heard.ensures.fault)

pub returns-in_err-totals-clause-fault : goal.returns-in_err-totals-clause-fault
returns-in_err-totals-clause-fault g c =
    let p = err_from_is_err_and c.from_residual-in_err-totals.result c.from_residual-in_err-totals.ensures.1 in
    rw (p.1, p.2)
    (ends_sending g.C.Core.hears g.C.Core.hear_out_of_memory g.C.Core.gives g.C.Core.next_out_of_memory g.K.Clock.tells (g.C.Core.port_count c.args.core.now) (g.S.PortDriver.transmissions c.args.driver.now) g.S.PortDriver.sends g.S.PortDriver.fails_to_send c.now-now.result _ _ _ _ _ _ _ _ _ _ _ _ c.in_ok-heard.heard c.now-now.ensures c.in_ok-heard.ensures.transmissions c.in_ok-heard.ensures.heard c.in_err-totals.ensures.fault)

pub returns-clause-turn : goal.returns-clause-turn
returns-clause-turn g c =
    ran_one g.C.Core.hears g.C.Core.gives g.K.Clock.tells (g.C.Core.port_count c.args.core.now) (g.S.PortDriver.transmissions c.args.driver.now) g.S.PortDriver.sends c.now-now.result _ _ _ _ _ _ _ _ _ _ _ c.in_ok-heard.heard c.in_ok-totals.totals c.now-now.ensures c.in_ok-heard.ensures.transmissions c.in_ok-heard.ensures.heard c.in_ok-totals.ensures.sent

pub returns-in_err-totals-clause-waiting : goal.returns-in_err-totals-clause-waiting
returns-in_err-totals-clause-waiting g c =
    let sent = c.in_err-totals.ensures.fault in
    takes_sent _ _ _ _ _ _ _ sent.1 c.in_ok-heard.ensures.waiting sent.3 c.in_err-totals.ensures.waiting

pub returns-clause-waiting : goal.returns-clause-waiting
returns-clause-waiting g c =
    let sent = c.in_ok-totals.ensures.sent in
    takes_sent _ _ _ _ _ _ _ _ c.in_ok-heard.ensures.waiting sent.2 c.in_ok-totals.ensures.waiting
