use Rattle.std.proofs.Common.{◌≡◌, ℕ, List}
use Rattle.ipx_carrier.specs.Turns.{peers_of}
use Rattle.ipx_host.specs.Turning.{DrivesTurn}
use Rattle.ipx_host.specs.Hosting.{StepView, StepsWithoutStop}
use Rattle.ipx_host.specs.Midway.{listening_at}
use Rattle.ipx_sockets.specs.Polling.{WaitsWell}
use Rattle.ipx_host.proofs.listening.ListeningHost.serve.Given as goal

-- so many steps were taken, and no wait between them failed
abbrev pub invariant-loop-step : goal.invariant-loop-step
invariant-loop-step g l = record {
  once : l.self.sessions.once ≡ l.fn.self.sessions.once;
  peers : l.self.station.host_socket.ports.peers ≡ l.fn.self.station.host_socket.ports.peers;
  waits : (count : ℕ) × WaitsWell count l.fn.self.station.poller l.self.station.poller;
  steps : (steps : List StepView) × StepsWithoutStop l._step (listening_at l.fn.self (g.W.Write.contents l.fn.writer)) (listening_at l.self (g.W.Write.contents l.writer)) l.fn.self.sessions.once DrivesTurn (peers_of l.fn.self.station.host_socket.ports.peers.items) steps;
}
