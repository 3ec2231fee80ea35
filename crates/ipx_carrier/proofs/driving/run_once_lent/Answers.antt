use Rattle.ipx_carrier.proofs.Bursting.{on_whole, takes}
use Rattle.ipx_carrier.proofs.driving.run_once_lent.Goals as goal

pub returns-clause-begins : goal.returns-clause-begins
returns-clause-begins g c =
    λ can.
    takes g.C.Core.hears g.C.Core.hear_out_of_memory g.C.Core.gives g.C.Core.next_out_of_memory g.K.Clock.tells (g.C.Core.port_count c.args.core.now) (g.S.PortDriver.transmissions c.args.driver.now) (g.S.PortDriver.traffic c.args.driver.now) (g.S.PortDriver.traffic c.run_once_in.new.driver) c.args.clock.now c.run_once_in.new.clock c.args.core.now c.run_once_in.new.core c.run_once_in.result c.run_once_in.ensures.turn c.run_once_in.ensures.fault

pub returns-clause-begun : goal.returns-clause-begun
returns-clause-begun g c = on_whole c.run_once_in.result (c.can_begin_over.ensures.0 c.if-not-can_begin_over.false)
