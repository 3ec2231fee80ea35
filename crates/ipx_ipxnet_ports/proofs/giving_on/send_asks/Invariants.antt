use Rattle.std.proofs.Common.{◌≡◌, [], filter, take}
use Rattle.ipxnet_server.specs.Pings.{is_asked}
use Rattle.ipx_carrier.specs.DriverTurns.{SendsEach}
use Rattle.ipx_carrier.specs.Readiness.{MarksStay}
use Rattle.ipx_ipxnet_ports.specs.OnServers.{sent_to_noted}
use Rattle.ipx_ipxnet_ports.specs.PlaceTraffic.{HandsOver}
use Rattle.ipx_ipxnet_ports.proofs.giving_on.send_asks.Given as goal

abbrev pub invariant-loop-one : goal.invariant-loop-one
invariant-loop-one g l = record {
  gone : HandsOver (sent_to_noted l.port l.ping (filter (is_asked l.turn) (take l.one-index l.noted))) [] (g.D.PlaceSockets.traffic l.fn.sockets) (g.D.PlaceSockets.traffic l.sockets) (g.D.PlaceSockets.failed l.fn.sockets) (g.D.PlaceSockets.failed l.sockets);
  sends : SendsEach g.D.PlaceSockets.sends (sent_to_noted l.port l.ping (filter (is_asked l.turn) (take l.one-index l.noted))) l.fn.sockets l.sockets;
  ports : g.D.PlaceSockets.port_count l.sockets ≡ g.D.PlaceSockets.port_count l.fn.sockets;
  filtered : g.D.PlaceSockets.filtered l.sockets ≡ g.D.PlaceSockets.filtered l.fn.sockets;
  marks : MarksStay (g.D.PlaceSockets.marked l.fn.sockets) (g.D.PlaceSockets.marked l.sockets);
}
