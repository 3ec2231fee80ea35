use Rattle.ipx_net.specs.NetBeginnings.{ArePortsOwed}
use Rattle.ipx_sim.proofs.layout.ports_of.Given as goal

abbrev pub invariant-loop-part : goal.invariant-loop-part
invariant-loop-part l = ArePortsOwed l.ports
