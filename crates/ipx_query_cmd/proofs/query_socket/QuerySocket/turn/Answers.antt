use Rattle.std.proofs.Common.{◌∙◌, [], ◌∷◌, ap}
use Rattle.ipx_carrier.specs.Counts.{report_of}
use Rattle.ipx_carrier.specs.ReadySet.{is_port_marked}
use Rattle.ipx_carrier.specs.Turns.{by_ip, peers_of}
use Rattle.ipx_sockets.specs.PortTurns.{HostPort}
use Rattle.ipx_sockets.specs.SourceFilter.{drops_in}
use Rattle.ipx_query_cmd.proofs.Driven.{driven}
use Rattle.ipx_query_cmd.proofs.Pauses.{busy_by}
use Rattle.ipx_query_cmd.proofs.query_socket.QuerySocket.turn.Goals as goal

pub returns-clause-turn : goal.returns-clause-turn
returns-clause-turn g c =
    let old : HostPort = c.args.self.now.ports in
    let there : HostPort = record old { device = c.mark_all.new.self } in
    let ran = c.run_once_over_ports.new in
    let r = driven g.C.Core.hears g.C.Core.gives g.K.Clock.tells (λ (p : HostPort). is_port_marked p.device.device.marks) (g.C.Core.port_count c.args.core.now)
    c.args.core.now ran.core c.args.clock.now ran.clock ran.driver c.in-Ok.report old there (ap (λ d. record old { device = d }) c.mark_all.ensures) c.in-Ok.ensures.marks in
    let its = report_of (by_ip (peers_of old.peers.items)) (r.0 ∷ []) in (
      r.0,
      r.1,
      r.2,
      r.3,
      busy_by c.is_busy.result c.in-Ok.report its c.filtered-before.result c.filtered.result (drops_in old.device.kept) (drops_in ran.driver.device.kept) r.4
          (c.filtered-before.ensures.total ∙ ap (λ d. drops_in d.kept) c.mark_all.ensures) c.filtered.ensures.total c.is_busy.ensures,
    )
