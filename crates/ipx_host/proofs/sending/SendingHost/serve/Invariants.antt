use Rattle.std.proofs.Common.{◌≡◌, ℕ, List, length}
use Rattle.ipx_carrier.specs.Turns.{peers_of}
use Rattle.ipx_host.specs.Turning.{DrivesTurn}
use Rattle.ipx_host.specs.Midway.{sending_at}
use Rattle.ipx_sockets.specs.Polling.{WaitsWell}
use Rattle.ipx_host.specs.SendRounds.{Rounds}
use Rattle.ipx_host.proofs.sending.SendingHost.serve.Given as goal

-- what was fed, and how often it waited so far
abbrev pub invariant-loop : goal.invariant-loop
invariant-loop g l = record {
  id : l.self.id ≡ l.fn.self.id;
  peers : l.self.station.host_socket.ports.peers ≡ l.fn.self.station.host_socket.ports.peers;
  waits : (count : ℕ) × WaitsWell count l.fn.self.station.poller l.self.station.poller;
  fed : (bodies : List (List ℕ)) × (length bodies ≡ l.counter) × Rounds (sending_at l.fn.self (g.I.Read.remaining l.fn.reader)) bodies (sending_at l.self (g.I.Read.remaining l.reader)) DrivesTurn (peers_of l.fn.self.station.host_socket.ports.peers.items) l.fn.self.id;
}
