use Rattle.std.proofs.Common.{◌≡◌, ◌≤◌, ◌*◌, ◌^◌}
use Rattle.ipx_carrier.specs.Readiness.{MarksStay}
use Rattle.ipx_carrier.specs.Parts.{SendsCounted}
use Rattle.ipx_carrier.proofs.sending.send_all.Given as goal

abbrev pub invariant-loop-asked : goal.invariant-loop-asked
invariant-loop-asked g l = record {
  sent : SendsCounted g.C.Core.gives g.S.PortDriver.sends l._asked l.now (g.S.PortDriver.transmissions l.fn.driver) (g.S.PortDriver.traffic l.fn.driver) (g.S.PortDriver.traffic l.driver) l.fn.driver l.driver l.fn.core l.core l.totals;
  few : l.totals.sent ≤ l._asked * 2 ^ 64;
  few_unmapped : l.totals.unmapped ≤ l._asked;
  waiting : g.S.PortDriver.waiting l.driver ≡ g.S.PortDriver.waiting l.fn.driver;
  failures : g.S.PortDriver.failed l.driver ≡ g.S.PortDriver.failed l.fn.driver;
  core_ports : g.C.Core.port_count l.core ≡ g.C.Core.port_count l.fn.core;
  driver_ports : g.S.PortDriver.port_count l.driver ≡ g.S.PortDriver.port_count l.fn.driver;
  transmissions : g.S.PortDriver.transmissions l.driver ≡ g.S.PortDriver.transmissions l.fn.driver;
  access : g.S.PortDriver.access l.driver ≡ g.S.PortDriver.access l.fn.driver;
  filtered : g.S.PortDriver.filtered l.fn.driver ≤ g.S.PortDriver.filtered l.driver;
  marks : MarksStay (g.S.PortDriver.marked l.fn.driver) (g.S.PortDriver.marked l.driver);
  kept : g.S.PortDriver.kept l.driver ≡ g.S.PortDriver.kept l.fn.driver;
}
