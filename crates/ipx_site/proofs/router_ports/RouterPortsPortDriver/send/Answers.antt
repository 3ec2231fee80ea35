use Rattle.std.proofs.Common.{map, refl}
use Rattle.ipx_carrier.specs.Turns.{Given, peers_of}
use Rattle.ipx_site.specs.declared.router_ports.PortIndex.TheVariants.{Datagrams, Ethernet, IpxnetServer}
use Rattle.ipx_site.proofs.IndexMarks.{index_there}
use Rattle.ipx_site.proofs.PortKinds.{fails_to_send, never_fails, sends_datagrams, sends_ethernet, sends_servers}
use Rattle.ipx_site.proofs.Spots.{counts_datagrams, counts_frames, counts_servers, refused_datagrams}
use Rattle.ipx_site.proofs.router_ports.RouterPortsPortDriver.send.Goals as goal

pub returns-in-Datagrams-clause-sends : goal.returns-in-Datagrams-clause-sends
returns-in-Datagrams-clause-sends g c =
    let self = c.args.self.now in
    let packet : Given = record { port = c.args.port; node = c.args.node; bytes = c.args.packet.now } in
    let there = index_there self.port_indices.items c.args.port c.index.result.now (Datagrams c.in-Datagrams.place) c.requires.there c.index.ensures c.in-Datagrams.is in
    sends_datagrams self _ c.in-Datagrams.place (refl, refl) packet c.send.result there refl refl c.send.ensures.sends c.send.ensures.sent

pub returns-in-Datagrams-clause-fails_to_send : goal.returns-in-Datagrams-clause-fails_to_send
returns-in-Datagrams-clause-fails_to_send g c =
    let self = c.args.self.now in
    let packet : Given = record { port = c.args.port; node = c.args.node; bytes = c.args.packet.now } in
    let there = index_there self.port_indices.items c.args.port c.index.result.now (Datagrams c.in-Datagrams.place) c.requires.there c.index.ensures c.in-Datagrams.is in
    fails_to_send self _ c.in-Datagrams.place (refl, refl) packet c.send.result there refl refl c.send.ensures.fails_to_send c.send.ensures.refused

pub returns-in-Ethernet-clause-sends : goal.returns-in-Ethernet-clause-sends
returns-in-Ethernet-clause-sends g c =
    let self = c.args.self.now in
    let packet : Given = record { port = c.args.port; node = c.args.node; bytes = c.args.packet.now } in
    let there = index_there self.port_indices.items c.args.port c.index.result.now (Ethernet c.in-Ethernet.place) c.requires.there c.index.ensures c.in-Ethernet.is in
    sends_ethernet self _ c.in-Ethernet.place (refl, refl) packet c.send-in-Ethernet.result there refl refl c.send-in-Ethernet.ensures.sends

pub returns-in-Ethernet-clause-fails_to_send : goal.returns-in-Ethernet-clause-fails_to_send
returns-in-Ethernet-clause-fails_to_send g c = never_fails _ c.send-in-Ethernet.result c.send-in-Ethernet.ensures.goes_on

pub returns-in-IpxnetServer-clause-sends : goal.returns-in-IpxnetServer-clause-sends
returns-in-IpxnetServer-clause-sends g c =
    let self = c.args.self.now in
    let packet : Given = record { port = c.args.port; node = c.args.node; bytes = c.args.packet.now } in
    let there = index_there self.port_indices.items c.args.port c.index.result.now (IpxnetServer c.in-IpxnetServer.place) c.requires.there c.index.ensures c.in-IpxnetServer.is in
    sends_servers self _ c.in-IpxnetServer.place (refl, refl) packet c.send-in-IpxnetServer.result there refl refl c.send-in-IpxnetServer.ensures.sends

pub returns-in-IpxnetServer-clause-fails_to_send : goal.returns-in-IpxnetServer-clause-fails_to_send
returns-in-IpxnetServer-clause-fails_to_send g c = never_fails _ c.send-in-IpxnetServer.result c.send-in-IpxnetServer.ensures.goes_on

pub returns-in-Datagrams-clause-count : goal.returns-in-Datagrams-clause-count
returns-in-Datagrams-clause-count g c =
    let self = c.args.self.now in
    counts_datagrams (peers_of self.datagrams.peers.items) (map (λ h. h.port) self.ethernet.switches.items) self.port_indices.items
    (record { port = c.args.port; node = c.args.node; bytes = c.args.packet.now }) c.in-Datagrams.place c.index.result.now c.requires.there c.index.ensures
    c.send.result c.in-Datagrams.is c.send.ensures.count

pub returns-in-Ethernet-clause-count : goal.returns-in-Ethernet-clause-count
returns-in-Ethernet-clause-count g c =
    let self = c.args.self.now in
    counts_frames (peers_of self.datagrams.peers.items) (map (λ h. h.port) self.ethernet.switches.items) self.port_indices.items
    (record { port = c.args.port; node = c.args.node; bytes = c.args.packet.now }) c.in-Ethernet.place c.index.result.now c.requires.there c.index.ensures
    c.send-in-Ethernet.result c.in-Ethernet.is c.send-in-Ethernet.ensures.count

pub returns-in-IpxnetServer-clause-count : goal.returns-in-IpxnetServer-clause-count
returns-in-IpxnetServer-clause-count g c =
    let self = c.args.self.now in
    counts_servers (peers_of self.datagrams.peers.items) (map (λ h. h.port) self.ethernet.switches.items) self.port_indices.items
    (record { port = c.args.port; node = c.args.node; bytes = c.args.packet.now }) c.in-IpxnetServer.place c.index.result.now c.requires.there c.index.ensures
    c.send-in-IpxnetServer.result c.in-IpxnetServer.is c.send-in-IpxnetServer.ensures.count

pub returns-in-Datagrams-clause-refused : goal.returns-in-Datagrams-clause-refused
returns-in-Datagrams-clause-refused g c =
    let self = c.args.self.now in
    refused_datagrams (peers_of self.datagrams.peers.items) (map (λ h. h.port) self.ethernet.switches.items) self.port_indices.items
    (record { port = c.args.port; node = c.args.node; bytes = c.args.packet.now }) c.in-Datagrams.place c.index.result.now c.requires.there c.index.ensures
    c.send.result _ _ c.in-Datagrams.is c.send.ensures.refused
