use Rattle.std.proofs.Common.{◌≡◌, length}
use Rattle.ipx_carrier.specs.Readiness.{MarksStay}
use Rattle.ipx_ipxnet_ports.specs.OnServers.{PingsAtServers, PingsThroughSockets, servers_view}
use Rattle.ipx_ipxnet_ports.proofs.server_ports.Servers.send_pings.Given as goal

abbrev pub invariant-loop-port : goal.invariant-loop-port
invariant-loop-port g l = record {
  pings : PingsAtServers l.fn.self.moment l.port
      (servers_view l.fn.self.servers.items l.fn.self.kept (g.D.PlaceSockets.traffic l.fn.self.sockets) (g.D.PlaceSockets.failed l.fn.self.sockets))
      (servers_view l.self.servers.items l.self.kept (g.D.PlaceSockets.traffic l.self.sockets) (g.D.PlaceSockets.failed l.self.sockets));
  sends : PingsThroughSockets g.D.PlaceSockets.sends l.fn.self.moment l.port
      (servers_view l.fn.self.servers.items l.fn.self.kept (g.D.PlaceSockets.traffic l.fn.self.sockets) (g.D.PlaceSockets.failed l.fn.self.sockets))
      (servers_view l.self.servers.items l.self.kept (g.D.PlaceSockets.traffic l.self.sockets) (g.D.PlaceSockets.failed l.self.sockets))
      l.fn.self.sockets l.self.sockets;
  moment : l.self.moment ≡ l.fn.self.moment;
  kept : l.self.kept ≡ l.fn.self.kept;
  servers : length l.self.servers.items ≡ length l.fn.self.servers.items;
  ports : g.D.PlaceSockets.port_count l.self.sockets ≡ g.D.PlaceSockets.port_count l.fn.self.sockets;
  filtered : g.D.PlaceSockets.filtered l.self.sockets ≡ g.D.PlaceSockets.filtered l.fn.self.sockets;
  marks : MarksStay (g.D.PlaceSockets.marked l.fn.self.sockets) (g.D.PlaceSockets.marked l.self.sockets);
}
