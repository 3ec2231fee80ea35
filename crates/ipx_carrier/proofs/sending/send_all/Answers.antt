use Rattle.std.proofs.Common.{◌∙◌, rules, arith, Option, Some, subst}
use Rattle.std.proofs.lemmas.Result.{err_from_is_err_and}
use Rattle.ipx_carrier.specs.declared.port_driver.PacketSent.{PacketSent}
use Rattle.ipx_carrier.specs.Parts.{SendsNext}
use Rattle.ipx_carrier.specs.SendingView.{copies_view}
use Rattle.ipx_carrier.specs.PortDrivers.{count_in}
use Rattle.ipx_carrier.proofs.Sends.{sends_in_part_there, sends_more_there}
use Rattle.ipx_carrier.proofs.sending.send_all.Goals as goal

pub returns-in_err-sent-clause-fault : goal.returns-in_err-sent-clause-fault
returns-in_err-sent-clause-fault g c =
    let p = err_from_is_err_and c.from_residual.result c.from_residual.ensures.1 in
    rw (p.1, p.2)
    (sends_in_part_there g.C.Core.gives g.C.Core.next_out_of_memory g.S.PortDriver.sends g.S.PortDriver.fails_to_send c.args.now (g.S.PortDriver.transmissions c.args.driver.now) c.loop-asked._asked 64 (g.S.PortDriver.transmissions c.loop-asked.driver) _ _ _ _ _ _ _ _ _ c.loop-asked.totals _ c.loop-asked.invariant.transmissions c.loop-asked.invariant.sent (omega arith) c.in_err-sent.ensures.fault)

pub loop-asked-preserved : goal.loop-asked-preserved
loop-asked-preserved g c =
    let transmissions = g.S.PortDriver.transmissions c.args.driver.now in
    let there = g.S.PortDriver.transmissions c.loop-asked.driver in
    let t = g.S.PortDriver.traffic c.loop-asked.driver in
    let u = g.S.PortDriver.traffic c.send_next.new.driver in
    let next : SendsNext g.C.Core.gives g.S.PortDriver.sends c.args.now there t u c.loop-asked.driver c.send_next.new.driver c.loop-asked.core c.send_next.new.core (Some (count_in c.in-Some.sent)) =
    subst (λ (o : Option PacketSent). SendsNext g.C.Core.gives g.S.PortDriver.sends c.args.now there t u c.loop-asked.driver c.send_next.new.driver c.loop-asked.core c.send_next.new.core (copies_view o)) c.in-Some.is c.in_ok-sent.ensures.sent in
    record {
      sent = sends_more_there g.C.Core.gives g.S.PortDriver.sends c.args.now transmissions c.loop-asked._asked there _ t u c.args.driver.now c.loop-asked.driver c.send_next.new.driver _ c.loop-asked.core c.send_next.new.core c.loop-asked.totals c.with_packet-totals.result (count_in c.in-Some.sent) c.loop-asked.invariant.transmissions c.loop-asked.invariant.sent next c.with_packet-totals.ensures.added;
      few = omega arith;
      few_unmapped = omega arith;
      waiting = search rules;
      failures = search rules;
      core_ports = search rules;
      driver_ports = search rules;
      transmissions = search rules;
      access = search rules;
      filtered = omega arith;
      marks = λ port. c.send_next.ensures.marks port ∙ c.loop-asked.invariant.marks port;
      kept = search rules;
    }
