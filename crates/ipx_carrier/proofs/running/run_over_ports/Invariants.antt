use Rattle.std.proofs.Common.{◌≡◌, ◌≤◌, ◌*◌, ◌^◌}
use Rattle.ipx_carrier.specs.Parts.{TakesFromDevice}
use Rattle.ipx_carrier.specs.Runs.{RunsBy}
use Rattle.ipx_carrier.proofs.running.run_over_ports.Given as goal

abbrev pub invariant-loop-turn : goal.invariant-loop-turn
invariant-loop-turn g l = record {
  ran : RunsBy g.C.Core.hears g.C.Core.gives g.K.Clock.tells (g.C.Core.port_count l.fn.core) (g.S.PortDriver.transmissions l.fn.driver) l._turn (g.S.PortDriver.traffic l.fn.driver) (g.S.PortDriver.traffic l.driver) l.fn.clock l.clock l.fn.core l.core l.report;
  counted : l.report.turns ≤ l._turn;
  heard : l.report.heard ≤ l._turn * 2 ^ 64;
  sent : l.report.sent ≤ l._turn * (64 * 2 ^ 64);
  unmapped : l.report.unmapped ≤ l._turn * 64;
  waiting : TakesFromDevice 1536 (g.S.PortDriver.traffic l.fn.driver) (g.S.PortDriver.traffic l.driver) (g.S.PortDriver.waiting l.fn.driver) (g.S.PortDriver.waiting l.driver);
  failures : g.S.PortDriver.failed l.driver ≡ g.S.PortDriver.failed l.fn.driver;
  core_ports : g.C.Core.port_count l.core ≡ g.C.Core.port_count l.fn.core;
  driver_ports : g.S.PortDriver.port_count l.driver ≡ g.S.PortDriver.port_count l.fn.driver;
  transmissions : g.S.PortDriver.transmissions l.driver ≡ g.S.PortDriver.transmissions l.fn.driver;
  access : g.S.PortDriver.access l.driver ≡ g.S.PortDriver.access l.fn.driver;
  filtered : g.S.PortDriver.filtered l.fn.driver ≤ g.S.PortDriver.filtered l.driver;
  kept : g.S.PortDriver.kept l.driver ≡ g.S.PortDriver.kept l.fn.driver;
}
