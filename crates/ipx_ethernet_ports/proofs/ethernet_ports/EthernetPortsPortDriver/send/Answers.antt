use Rattle.std.proofs.Common.{slice_index}
use Rattle.ipx_ethernet_ports.specs.OnEthernet.{ethernet_ports_view}
use Rattle.ipx_ethernet_ports.proofs.Hubs.{sending_leaves_ports}
use Rattle.ipx_ethernet_ports.proofs.ethernet_ports.EthernetPortsPortDriver.send.Goals as goal

pub returns-clause-transmissions : goal.returns-clause-transmissions
returns-clause-transmissions g c =
    let old = c.args.self.now in
    let new = c.send_frame.new.self in
    sending_leaves_ports (slice_index (g.D.EndSockets.ends_of old.sockets) c.args.port) old.moment c.args.port c.args.node c.args.packet.now c.send_frame.result
    (ethernet_ports_view old.switches.items old.kept (g.D.EndSockets.traffic old.sockets) (g.D.EndSockets.failed old.sockets))
    (ethernet_ports_view new.switches.items new.kept (g.D.EndSockets.traffic new.sockets) (g.D.EndSockets.failed new.sockets))
    c.send_frame.ensures.sent
