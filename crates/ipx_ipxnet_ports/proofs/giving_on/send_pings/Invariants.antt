use Rattle.std.proofs.Common.{◌≡◌, [], filter, take}
use Rattle.ipxnet_server.specs.Pings.{is_pinged}
use Rattle.ipx_carrier.specs.DriverTurns.{SendsEach}
use Rattle.ipx_carrier.specs.Readiness.{MarksStay}
use Rattle.ipx_ipxnet_ports.specs.OnServers.{relayed_to}
use Rattle.ipx_ipxnet_ports.specs.PlaceTraffic.{HandsOver}
use Rattle.ipx_ipxnet_ports.proofs.giving_on.send_pings.Given as goal

abbrev pub invariant-loop-client : goal.invariant-loop-client
invariant-loop-client g l = record {
  gone : HandsOver (relayed_to l.port l.ping (filter (is_pinged l.turn) (take l.client-index l.known))) [] (g.D.PlaceSockets.traffic l.fn.sockets) (g.D.PlaceSockets.traffic l.sockets) (g.D.PlaceSockets.failed l.fn.sockets) (g.D.PlaceSockets.failed l.sockets);
  sends : SendsEach g.D.PlaceSockets.sends (relayed_to l.port l.ping (filter (is_pinged l.turn) (take l.client-index l.known))) l.fn.sockets l.sockets;
  ports : g.D.PlaceSockets.port_count l.sockets ≡ g.D.PlaceSockets.port_count l.fn.sockets;
  filtered : g.D.PlaceSockets.filtered l.sockets ≡ g.D.PlaceSockets.filtered l.fn.sockets;
  marks : MarksStay (g.D.PlaceSockets.marked l.fn.sockets) (g.D.PlaceSockets.marked l.sockets);
}
