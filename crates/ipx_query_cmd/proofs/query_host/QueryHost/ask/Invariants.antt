use Rattle.std.proofs.Common.{ℕ, List}
use Rattle.ipx_carrier.specs.Turns.{Turn}
use Rattle.ipx_sockets.specs.Polling.{WaitsWell}
use Rattle.ipx_query_cmd.specs.QueryRuns.{AsksOn}
use Rattle.ipx_query_cmd.proofs.query_host.QueryHost.ask.Given as goal

-- it was asked turn by turn so far, and no wait between the turns failed
abbrev pub invariant-loop : goal.invariant-loop
invariant-loop g l = record {
  asks : (turns : List Turn) × AsksOn turns l.fn.self.clock.last l.self.clock.last l.fn.self.own_socket.ports l.self.own_socket.ports l.fn.self.core l.self.core;
  waits : (count : ℕ) × WaitsWell count l.fn.self.poller l.self.poller;
}
