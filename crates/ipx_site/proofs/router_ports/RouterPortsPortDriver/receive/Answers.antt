use Rattle.std.proofs.Common.{refl}
use Rattle.ipx_site.specs.declared.router_ports.PortIndex.TheVariants.{Datagrams, Ethernet, IpxnetServer}
use Rattle.ipx_site.proofs.IndexMarks.{hears_datagrams, hears_ethernet, hears_servers, index_there}
use Rattle.ipx_site.proofs.PortKinds.{fails_to_receive, never_fails, receives_datagrams, receives_ethernet, receives_servers}
use Rattle.ipx_site.proofs.router_ports.RouterPortsPortDriver.receive.Goals as goal

pub returns-in-Datagrams-clause-receives : goal.returns-in-Datagrams-clause-receives
returns-in-Datagrams-clause-receives g c =
    let self = c.args.self.now in
    let there = index_there self.port_indices.items c.args.port c.index.result.now (Datagrams c.in-Datagrams.place) c.requires.there c.index.ensures c.in-Datagrams.is in
    receives_datagrams self _ c.in-Datagrams.place (refl, refl) c.args.port _ c.receive.new.room c.receive.result there refl refl c.receive.ensures.receives c.receive.ensures.received

pub returns-in-Datagrams-clause-fails_to_receive : goal.returns-in-Datagrams-clause-fails_to_receive
returns-in-Datagrams-clause-fails_to_receive g c =
    let self = c.args.self.now in
    let there = index_there self.port_indices.items c.args.port c.index.result.now (Datagrams c.in-Datagrams.place) c.requires.there c.index.ensures c.in-Datagrams.is in
    fails_to_receive self _ c.in-Datagrams.place (refl, refl) c.args.port _ c.receive.result there refl refl c.receive.ensures.fails_to_receive c.receive.ensures.refused

pub returns-in-Ethernet-clause-receives : goal.returns-in-Ethernet-clause-receives
returns-in-Ethernet-clause-receives g c =
    let self = c.args.self.now in
    let there = index_there self.port_indices.items c.args.port c.index.result.now (Ethernet c.in-Ethernet.place) c.requires.there c.index.ensures c.in-Ethernet.is in
    receives_ethernet self _ c.in-Ethernet.place (refl, refl) c.args.port _ c.receive-in-Ethernet.new.room c.receive-in-Ethernet.result there refl refl c.receive-in-Ethernet.ensures.receives

pub returns-in-Ethernet-clause-fails_to_receive : goal.returns-in-Ethernet-clause-fails_to_receive
returns-in-Ethernet-clause-fails_to_receive g c = never_fails _ c.receive-in-Ethernet.result c.receive-in-Ethernet.ensures.goes_on

pub returns-in-IpxnetServer-clause-receives : goal.returns-in-IpxnetServer-clause-receives
returns-in-IpxnetServer-clause-receives g c =
    let self = c.args.self.now in
    let there = index_there self.port_indices.items c.args.port c.index.result.now (IpxnetServer c.in-IpxnetServer.place) c.requires.there c.index.ensures c.in-IpxnetServer.is in
    receives_servers self _ c.in-IpxnetServer.place (refl, refl) c.args.port _ c.receive-in-IpxnetServer.new.room c.receive-in-IpxnetServer.result there refl refl c.receive-in-IpxnetServer.ensures.receives

pub returns-in-IpxnetServer-clause-fails_to_receive : goal.returns-in-IpxnetServer-clause-fails_to_receive
returns-in-IpxnetServer-clause-fails_to_receive g c = never_fails _ c.receive-in-IpxnetServer.result c.receive-in-IpxnetServer.ensures.goes_on

pub returns-in-Datagrams-clause-marks : goal.returns-in-Datagrams-clause-marks
returns-in-Datagrams-clause-marks g c =
    let self = c.args.self.now in
    let there = index_there self.port_indices.items c.args.port c.index.result.now (Datagrams c.in-Datagrams.place) c.requires.there c.index.ensures c.in-Datagrams.is in
    hears_datagrams (g.D.Datagrams.marked self.datagrams.device) (g.E.EndSockets.marked self.ethernet.sockets) (g.L.PlaceSockets.marked self.servers.sockets)
    (g.D.Datagrams.marked c.receive.new.self.device) c.in-Datagrams.place self.port_indices.items c.args.port c.receive.result there c.receive.ensures.marks

pub returns-in-Ethernet-clause-marks : goal.returns-in-Ethernet-clause-marks
returns-in-Ethernet-clause-marks g c =
    let self = c.args.self.now in
    let there = index_there self.port_indices.items c.args.port c.index.result.now (Ethernet c.in-Ethernet.place) c.requires.there c.index.ensures c.in-Ethernet.is in
    hears_ethernet (g.D.Datagrams.marked self.datagrams.device) (g.E.EndSockets.marked self.ethernet.sockets) (g.L.PlaceSockets.marked self.servers.sockets)
    (g.E.EndSockets.marked c.receive-in-Ethernet.new.self.sockets) c.in-Ethernet.place self.port_indices.items c.args.port c.receive-in-Ethernet.result there c.receive-in-Ethernet.ensures.marks

pub returns-in-IpxnetServer-clause-marks : goal.returns-in-IpxnetServer-clause-marks
returns-in-IpxnetServer-clause-marks g c =
    let self = c.args.self.now in
    let there = index_there self.port_indices.items c.args.port c.index.result.now (IpxnetServer c.in-IpxnetServer.place) c.requires.there c.index.ensures c.in-IpxnetServer.is in
    hears_servers (g.D.Datagrams.marked self.datagrams.device) (g.E.EndSockets.marked self.ethernet.sockets) (g.L.PlaceSockets.marked self.servers.sockets)
    (g.L.PlaceSockets.marked c.receive-in-IpxnetServer.new.self.sockets) c.in-IpxnetServer.place self.port_indices.items c.args.port c.receive-in-IpxnetServer.result there c.receive-in-IpxnetServer.ensures.marks
