use Rattle.std.proofs.Common.{◌≡◌, ◌≤◌, length}
use Rattle.ipx_carrier.specs.MarkedTurns.{AsksMarkedPorts}
use Rattle.ipx_carrier.specs.Parts.{AsksPorts, TakesFromDevice}
use Rattle.ipx_carrier.proofs.hearing.hear_ports.Given as goal

abbrev pub invariant-loop-port : goal.invariant-loop-port
invariant-loop-port g l = record {
  asked : AsksPorts g.C.Core.hears l.now l.port (g.S.PortDriver.traffic l.fn.driver) (g.S.PortDriver.traffic l.driver) l.fn.core l.core l.heard;
  few : l.heard ≤ l.port;
  room : length l.room ≡ length l.fn.room;
  waiting : TakesFromDevice (length l.fn.room) (g.S.PortDriver.traffic l.fn.driver) (g.S.PortDriver.traffic l.driver) (g.S.PortDriver.waiting l.fn.driver) (g.S.PortDriver.waiting l.driver);
  failures : g.S.PortDriver.failed l.driver ≡ g.S.PortDriver.failed l.fn.driver;
  core_ports : g.C.Core.port_count l.core ≡ g.C.Core.port_count l.fn.core;
  driver_ports : g.S.PortDriver.port_count l.driver ≡ g.S.PortDriver.port_count l.fn.driver;
  transmissions : g.S.PortDriver.transmissions l.driver ≡ g.S.PortDriver.transmissions l.fn.driver;
  access : g.S.PortDriver.access l.driver ≡ g.S.PortDriver.access l.fn.driver;
  filtered : g.S.PortDriver.filtered l.fn.driver ≤ g.S.PortDriver.filtered l.driver;
  marks : AsksMarkedPorts g.C.Core.hears g.S.PortDriver.receives g.S.PortDriver.marked l.now (length l.fn.room) l.port l.fn.driver l.driver l.fn.core l.core l.heard;
  kept : g.S.PortDriver.kept l.driver ≡ g.S.PortDriver.kept l.fn.driver;
}
