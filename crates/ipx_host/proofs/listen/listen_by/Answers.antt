use Rattle.std.proofs.Common.{◌≡◌, None, refl}
use Rattle.ipx_carrier.specs.Turns.{peers_of}
use Rattle.ipx_host.specs.HostPorts.{IsOpened}
use Rattle.ipx_host.specs.Turning.{DrivesTurn}
use Rattle.ipx_host.specs.Midway.{listening_at}
use Rattle.ipx_host.proofs.Hosted.{begins_so, begun, stopped_so}
use Rattle.ipx_host.proofs.Rounded.{on_ok}
use Rattle.ipx_host.proofs.listen.listen_by.Goals as goal

pub returns-clause-well : goal.returns-clause-well
returns-clause-well g c =
    let held = g.W.Write.contents in
    let started = c.open-started.ensures in
    let ran = c.run_listening.ensures in
    let begins = begins_so c.in-Ok.file c.open-started.result (λ l. listening_at l (held c.args.writer.now)) (λ l. peers_of l.station.host_socket.ports.peers.items) (held c.args.writer.now)
    started.network started.node started.router started.peers started.listens started.alone started.links started.accepted started.unpaced started.from started.own started.nobody started.nothing started.uncounted (λ l. refl) in
    on_ok _ c.args.loaded c.in-Ok.file c.in-Ok.is
    (begun c.in-Ok.file (c.run_listening.new.writer ≡ c.args.writer.now) c.open-started.result (λ l. listening_at l (held c.args.writer.now)) (λ l. l.sessions.once) (λ l. peers_of l.station.host_socket.ports.peers.items)
    c.args.once (held c.args.writer.now) (held c.run_listening.new.writer) DrivesTurn (λ k. IsOpened c.in-Ok.file None k.port) c.run_listening.result begins started.once started.opened ran.unstarted ran.once ran.well)

pub returns-clause-stops : goal.returns-clause-stops
returns-clause-stops g c =
    let held = g.W.Write.contents in
    let started = c.open-started.ensures in
    let ran = c.run_listening.ensures in
    let begins = begins_so c.in-Ok.file c.open-started.result (λ l. listening_at l (held c.args.writer.now)) (λ l. peers_of l.station.host_socket.ports.peers.items) (held c.args.writer.now)
    started.network started.node started.router started.peers started.listens started.alone started.links started.accepted started.unpaced started.from started.own started.nobody started.nothing started.uncounted (λ l. refl) in
    on_ok _ c.args.loaded c.in-Ok.file c.in-Ok.is
    (stopped_so c.in-Ok.file (c.run_listening.new.writer ≡ c.args.writer.now) c.open-started.result (λ l. listening_at l (held c.args.writer.now)) (λ l. l.sessions.once) (λ l. peers_of l.station.host_socket.ports.peers.items)
    c.args.once (held c.args.writer.now) (held c.run_listening.new.writer) DrivesTurn (λ k. IsOpened c.in-Ok.file None k.port) c.run_listening.result begins started.once started.opened ran.unstarted ran.runs)
