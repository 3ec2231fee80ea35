use Rattle.std.proofs.Common.{◌≡◌, None, false}
use Rattle.ipx_carrier.specs.Driving.{CanBeginBy, no_turns}
use Rattle.ipx_carrier.proofs.Bursting.{Goes}
use Rattle.ipx_carrier.proofs.driving.run_batch.Given as goal

abbrev pub invariant-loop-turn : goal.invariant-loop-turn
invariant-loop-turn g l =
    let begun = CanBeginBy (g.C.Core.port_count l.fn.core) (g.S.PortDriver.port_count l.fn.driver) (g.S.PortDriver.failed l.fn.driver) in
    record {
      failures : begun → g.S.PortDriver.failed l.driver ≡ g.S.PortDriver.failed l.fn.driver;
      goes : begun → Goes g.C.Core.hears g.C.Core.gives g.K.Clock.tells g.S.PortDriver.receives g.S.PortDriver.sends g.S.PortDriver.filtered g.S.PortDriver.marked (g.C.Core.port_count l.fn.core) 1536 (g.S.PortDriver.transmissions l.fn.driver) l._turn l.batch l.fn.driver l.driver l.fn.clock l.clock l.fn.core l.core;
      nothing : (begun → ⊥) → (l._turn ≡ 0) × (l.batch ≡ no_turns) × (l.core ≡ l.fn.core) × (l.driver ≡ l.fn.driver) × (l.clock ≡ l.fn.clock);
      whole : l.batch.fault ≡ None;
      loud : l.batch.quiet ≡ false;
      ports : g.C.Core.port_count l.core ≡ g.C.Core.port_count l.fn.core;
      driver_ports : g.S.PortDriver.port_count l.driver ≡ g.S.PortDriver.port_count l.fn.driver;
      transmissions : g.S.PortDriver.transmissions l.driver ≡ g.S.PortDriver.transmissions l.fn.driver;
      access : g.S.PortDriver.access l.driver ≡ g.S.PortDriver.access l.fn.driver;
      kept : g.S.PortDriver.kept l.driver ≡ g.S.PortDriver.kept l.fn.driver;
    }
