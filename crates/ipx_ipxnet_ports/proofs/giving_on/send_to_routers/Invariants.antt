use Rattle.std.proofs.Common.{◌≡◌, [], take}
use Rattle.ipx_carrier.specs.DriverTurns.{SendsEach}
use Rattle.ipx_carrier.specs.Readiness.{MarksStay}
use Rattle.ipx_ipxnet_ports.specs.OnServers.{relayed_on}
use Rattle.ipx_ipxnet_ports.specs.PlaceTraffic.{HandsOver}
use Rattle.ipx_ipxnet_ports.proofs.Handing.{joined_among}
use Rattle.ipx_ipxnet_ports.proofs.giving_on.send_to_routers.Given as goal

abbrev pub invariant-loop-router : goal.invariant-loop-router
invariant-loop-router g l = record {
  gone : HandsOver (relayed_on l.port l.bytes (joined_among l.server l.takers (take l.router-index l.routers))) [] (g.D.PlaceSockets.traffic l.fn.sockets) (g.D.PlaceSockets.traffic l.sockets) (g.D.PlaceSockets.failed l.fn.sockets) (g.D.PlaceSockets.failed l.sockets);
  sends : SendsEach g.D.PlaceSockets.sends (relayed_on l.port l.bytes (joined_among l.server l.takers (take l.router-index l.routers))) l.fn.sockets l.sockets;
  ports : g.D.PlaceSockets.port_count l.sockets ≡ g.D.PlaceSockets.port_count l.fn.sockets;
  filtered : g.D.PlaceSockets.filtered l.sockets ≡ g.D.PlaceSockets.filtered l.fn.sockets;
  marks : MarksStay (g.D.PlaceSockets.marked l.fn.sockets) (g.D.PlaceSockets.marked l.sockets);
}
