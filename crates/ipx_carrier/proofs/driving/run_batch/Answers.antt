use Rattle.std.proofs.Common.{◌∙◌, ◌≡◌, arith, ap, sym, length}
use Rattle.ipx_carrier.specs.declared.fault.RunFault.TheVariants.{Device}
use Rattle.ipx_carrier.proofs.Bursting.{begins_again, ends_badly, ends_quietly, goes_on, is_busy_so, no_fault, refused_first, refused_none, same_fault}
use Rattle.ipx_carrier.proofs.driving.run_batch.Goals.{else-is_idle-via-then-is_idle+else-filtered-kept, else-is_idle-via-else-is_idle}
use Rattle.ipx_carrier.proofs.driving.run_batch.Goals as goal

pub returns-in-Err-clause-turns : goal.returns-in-Err-clause-turns
returns-in-Err-clause-turns g c =
    λ can.
    let l = c.loop-turn in
    let i = l.invariant in
    let again = begins_again i.ports i.driver_ports (i.failures can) can in
    let wide : length l.room ≡ 1536 = omega arith in
    ends_badly g.C.Core.hears g.C.Core.hear_out_of_memory g.C.Core.gives g.C.Core.next_out_of_memory g.K.Clock.tells g.S.PortDriver.receives g.S.PortDriver.sends g.S.PortDriver.fails_to_receive g.S.PortDriver.fails_to_send g.S.PortDriver.filtered g.S.PortDriver.marked (g.C.Core.port_count c.args.core.now) 1536 (g.S.PortDriver.transmissions c.args.driver.now) (g.C.Core.port_count l.core) (length l.room) l._turn c.args.most (g.S.PortDriver.transmissions l.driver) c.args.driver.now l.driver c.run_once_lent.new.driver c.args.clock.now l.clock c.run_once_lent.new.clock c.args.core.now l.core c.run_once_lent.new.core l.batch c.ended_by.result c.in-Err.fault i.ports wide i.transmissions (omega (arith, c.loop-turn-test.true)) i.loud c.ended_by.ensures (i.goes can) c.in-Err.ensures.filtered (c.in-Err.ensures.marks_fault again)

pub returns-in-Err-clause-refused : goal.returns-in-Err-clause-refused
returns-in-Err-clause-refused g c =
    λ cannot.
    let l = c.loop-turn in
    let i = l.invariant in
    let still = i.nothing cannot in
    let same = ap g.S.PortDriver.failed still.3 in
    let none = c.in-Err.ensures.refused (λ can. cannot (begins_again (sym i.ports) (sym i.driver_ports) (sym same) can)) in (
      refused_first l._turn c.args.most l.batch c.ended_by.result c.in-Err.fault (omega (arith, c.loop-turn-test.true)) still.1 (same_fault c.in-Err.fault Device none.0) c.ended_by.ensures,
      none.1 ∙ still.2,
      none.2 ∙ still.3,
      none.3 ∙ still.4,
    )

pub returns-then-filtered-kept-clause-turns : goal.returns-then-filtered-kept-clause-turns
returns-then-filtered-kept-clause-turns g c =
    λ can.
    let l = c.loop-turn in
    let i = l.invariant in
    let report = c.in-Ok.report in
    let counted = c.with-batch.ensures in
    let wide : length l.room ≡ 1536 = omega arith in
    ends_quietly g.C.Core.hears g.C.Core.hear_out_of_memory g.C.Core.gives g.C.Core.next_out_of_memory g.K.Clock.tells g.S.PortDriver.receives g.S.PortDriver.sends g.S.PortDriver.fails_to_receive g.S.PortDriver.fails_to_send g.S.PortDriver.filtered g.S.PortDriver.marked (g.C.Core.port_count c.args.core.now) 1536 (g.S.PortDriver.transmissions c.args.driver.now) (g.C.Core.port_count l.core) (length l.room) l._turn c.args.most (g.S.PortDriver.transmissions l.driver) c.args.driver.now l.driver c.run_once_lent.new.driver c.args.clock.now l.clock c.run_once_lent.new.clock c.args.core.now l.core c.run_once_lent.new.core l.batch c.with-batch.result c.quieted.result report i.ports wide i.transmissions (omega (arith, c.loop-turn-test.true)) (i.goes can) (sym c.filtered.ensures ∙ c.if-filtered-kept.true ∙ c.filtered-kept.ensures) c.in-Ok.ensures.marks (c.is_idle.ensures.0 c.if-is_idle.true) (counted.heard, counted.sent, counted.unmapped) (counted.rest.0 ∙ i.whole) c.quieted.ensures

pub loop-turn-preserved : goal.loop-turn-preserved
loop-turn-preserved g c =
    let l = c.loop-turn in
    let i = l.invariant in
    let report = c.in-Ok.report in
    let counted = c.with-batch.ensures in
    let wide : length l.room ≡ 1536 = omega arith in
    record {
      failures = λ can. c.in-Ok.ensures.failures (begins_again i.ports i.driver_ports (i.failures can) can) ∙ i.failures can;
      goes = λ can. goes_on g.C.Core.hears g.C.Core.gives g.K.Clock.tells g.S.PortDriver.receives g.S.PortDriver.sends g.S.PortDriver.filtered g.S.PortDriver.marked (g.C.Core.port_count c.args.core.now) 1536 (g.S.PortDriver.transmissions c.args.driver.now) (g.C.Core.port_count l.core) (length l.room) l._turn (g.S.PortDriver.transmissions l.driver) c.args.driver.now l.driver c.run_once_lent.new.driver c.args.clock.now l.clock c.run_once_lent.new.clock c.args.core.now l.core c.run_once_lent.new.core l.batch c.with-batch.result report i.ports wide i.transmissions (i.goes can) c.in-Ok.ensures.filtered c.in-Ok.ensures.marks (counted.heard, counted.sent, counted.unmapped)
          (λ idle. elim c.else-is_idle.branch [ else-is_idle-via-then-is_idle+else-filtered-kept w ↦ w.if-filtered-kept.false (w.filtered.ensures ∙ idle.2 ∙ sym c.filtered-kept.ensures) | else-is_idle-via-else-is_idle w ↦ is_busy_so c.is_idle.result report c.is_idle.ensures w.if-is_idle.false (idle.0, idle.1) ]);
      nothing = λ cannot.
          let still = i.nothing cannot in
          let same = ap g.S.PortDriver.failed still.3 in
          absurd (no_fault report Device (c.in-Ok.ensures.refused (λ can. cannot (begins_again (sym i.ports) (sym i.driver_ports) (sym same) can))).0);
      whole = counted.rest.0 ∙ i.whole;
      loud = counted.rest.1 ∙ i.loud;
      ports = c.in-Ok.ensures.ports ∙ i.ports;
      driver_ports = c.in-Ok.ensures.driver_ports ∙ i.driver_ports;
      transmissions = c.in-Ok.ensures.transmissions ∙ i.transmissions;
      access = c.in-Ok.ensures.access ∙ i.access;
      kept = c.in-Ok.ensures.kept ∙ i.kept;
    }

pub returns-clause-refused : goal.returns-clause-refused
returns-clause-refused g c =
    λ cannot.
    let l = c.loop-turn in
    let still = l.invariant.nothing cannot in
    (refused_none l._turn c.args.most l.batch still.0 (omega (arith, c.loop-turn-test.false, l.auto._turn-end)) still.1, still.2, still.3, still.4)
