use Rattle.ipx_carrier.specs.Turns.{by_ip, peers_of}
use Rattle.ipx_carrier.proofs.Bursting.{on_whole, takes}
use Rattle.ipx_carrier.proofs.driving.turn.Goals as goal

pub returns-clause-begins : goal.returns-clause-begins
returns-clause-begins g c =
    λ can.
    takes g.C.Core.hears g.C.Core.hear_out_of_memory g.C.Core.gives g.C.Core.next_out_of_memory g.K.Clock.tells (g.C.Core.port_count c.args.core.now) (by_ip (peers_of c.args.peers.now)) (g.D.Datagrams.traffic c.args.device.now) (g.D.Datagrams.traffic c.run.new.datagrams) c.args.clock.now c.run.new.clock c.args.core.now c.run.new.core c.run.result c.run.ensures.turns c.run.ensures.fault

pub returns-clause-begun : goal.returns-clause-begun
returns-clause-begun g c = on_whole c.run.result (c.can_begin.ensures.0 c.if-not-can_begin.false)
