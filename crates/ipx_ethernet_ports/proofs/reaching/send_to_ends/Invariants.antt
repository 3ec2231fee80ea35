use Rattle.std.proofs.Common.{◌≡◌, []}
use Rattle.ipx_carrier.specs.DriverTurns.{SendsEach}
use Rattle.ipx_carrier.specs.Readiness.{MarksStay}
use Rattle.ipx_ethernet_ports.specs.OnEthernet.{ReachesEnds, frames_to}
use Rattle.ipx_ethernet_ports.proofs.reaching.send_to_ends.Given as goal

abbrev pub invariant-loop-end : goal.invariant-loop-end
invariant-loop-end g l = record {
  reached : ReachesEnds l.way l.end l.port l.bytes [] (g.D.EndSockets.traffic l.fn.sockets) (g.D.EndSockets.traffic l.sockets) (g.D.EndSockets.failed l.fn.sockets) (g.D.EndSockets.failed l.sockets);
  sends : SendsEach g.D.EndSockets.sends (frames_to l.way l.end l.port l.bytes) l.fn.sockets l.sockets;
  ends : g.D.EndSockets.ends_of l.sockets ≡ g.D.EndSockets.ends_of l.fn.sockets;
  filtered : g.D.EndSockets.filtered l.sockets ≡ g.D.EndSockets.filtered l.fn.sockets;
  marks : MarksStay (g.D.EndSockets.marked l.fn.sockets) (g.D.EndSockets.marked l.sockets);
}
