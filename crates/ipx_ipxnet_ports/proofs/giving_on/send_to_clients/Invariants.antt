use Rattle.std.proofs.Common.{◌≡◌, [], take}
use Rattle.ipx_carrier.specs.DriverTurns.{SendsEach}
use Rattle.ipx_carrier.specs.Readiness.{MarksStay}
use Rattle.ipx_ipxnet_ports.specs.OnServers.{relayed_to}
use Rattle.ipx_ipxnet_ports.specs.PlaceTraffic.{HandsOver}
use Rattle.ipx_ipxnet_ports.proofs.Handing.{reached_among}
use Rattle.ipx_ipxnet_ports.proofs.giving_on.send_to_clients.Given as goal

abbrev pub invariant-loop-client : goal.invariant-loop-client
invariant-loop-client g l = record {
  gone : HandsOver (relayed_to l.port l.bytes (reached_among l.server l.takers (take l.client-index l.clients))) [] (g.D.PlaceSockets.traffic l.fn.sockets) (g.D.PlaceSockets.traffic l.sockets) (g.D.PlaceSockets.failed l.fn.sockets) (g.D.PlaceSockets.failed l.sockets);
  sends : SendsEach g.D.PlaceSockets.sends (relayed_to l.port l.bytes (reached_among l.server l.takers (take l.client-index l.clients))) l.fn.sockets l.sockets;
  ports : g.D.PlaceSockets.port_count l.sockets ≡ g.D.PlaceSockets.port_count l.fn.sockets;
  filtered : g.D.PlaceSockets.filtered l.sockets ≡ g.D.PlaceSockets.filtered l.fn.sockets;
  marks : MarksStay (g.D.PlaceSockets.marked l.fn.sockets) (g.D.PlaceSockets.marked l.sockets);
}
