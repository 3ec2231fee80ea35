use Rattle.std.proofs.Common.{◌≡◌, ℕ, List}
use Rattle.ipx_sockets.specs.Polling.{WaitsWell}
use Rattle.ipx_query_cmd.specs.PingRuns.{PingTurn}
use Rattle.ipx_query_cmd.proofs.PingSteps.{PingsSoFar}
use Rattle.ipx_query_cmd.proofs.pinging_host.PingingHost.ping.Given as goal

-- it pinged turn by turn so far, and no wait between the turns failed
abbrev pub invariant-loop : goal.invariant-loop
invariant-loop g l = record {
  to : l.self.to ≡ l.fn.self.to;
  waits : (count : ℕ) × WaitsWell count l.fn.self.poller l.self.poller;
  pings : (turns : List PingTurn) × PingsSoFar l.fn.self.to turns l.fn.self.clock.last l.self.clock.last l.fn.self.own_socket.ports l.self.own_socket.ports
      l.fn.self.core l.self.core l.fn.self.times.items l.self.times.items (g.W.Write.contents l.fn.writer) (g.W.Write.contents l.writer);
}
