use Rattle.ipx_ipxnet_ports.specs.OnServers.{servers_view}
use Rattle.ipx_ipxnet_ports.proofs.Steady.{said_of_packet, sending_leaves_ports}
use Rattle.ipx_ipxnet_ports.proofs.server_ports.ServersPortDriver.send.Goals as goal

pub returns-clause-count : goal.returns-clause-count
returns-clause-count g c =
    said_of_packet c.send_packet.result (record { port = c.args.port; node = c.args.node; bytes = c.args.packet.now }) c.send_packet.ensures.sent.said

pub returns-clause-stays : goal.returns-clause-stays
returns-clause-stays g c =
    let old = c.args.self.now in
    let new = c.send_packet.new.self in
    sending_leaves_ports old.moment c.args.port c.args.node c.args.packet.now c.send_packet.result
    (servers_view old.servers.items old.kept (g.D.PlaceSockets.traffic old.sockets) (g.D.PlaceSockets.failed old.sockets))
    (servers_view new.servers.items new.kept (g.D.PlaceSockets.traffic new.sockets) (g.D.PlaceSockets.failed new.sockets))
    c.send_packet.ensures.sent
