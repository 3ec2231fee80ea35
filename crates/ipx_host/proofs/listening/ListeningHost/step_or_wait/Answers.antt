use Rattle.std.proofs.lemmas.Result.{err_from_is_err_and}
use Rattle.ipx_carrier.specs.Turns.{peers_of}
use Rattle.ipx_host.specs.Midway.{listening_at}
use Rattle.ipx_host.specs.Turning.{DrivesTurn}
use Rattle.ipx_host.proofs.Hosted.{not_both, same_listening, waited}
use Rattle.ipx_host.proofs.listening.ListeningHost.step_or_wait.Goals as goal

pub returns-in_err-wait-clause-steps : goal.returns-in_err-wait-clause-steps
returns-in_err-wait-clause-steps g c =
    let held = g.W.Write.contents in
    let old = c.args.self.now in
    let new = c.step.new.self in
    let step = c.in_ok-step.ensures.steps in
    let p = err_from_is_err_and c.from_residual-in_err-wait.result c.from_residual-in_err-wait.ensures.1 in
    rw (p.1, p.2) (
      step.0,
      waited (listening_at old (held c.args.writer.now)) (listening_at new (held c.step.new.writer)) _ old.sessions.once DrivesTurn (peers_of old.station.host_socket.ports.peers.items) step.0
          (same_listening new c.wait.new.self (held c.step.new.writer) c.wait.ensures.core c.wait.ensures.clock c.wait.ensures.host_socket c.wait.ensures.refused) step.1,
      λ active. absurd (not_both c.in_ok-step.field-0 c.if-not-branch.true (step.2 active)),
    )
