-- What one turn of a host or a router of a script does to its core, its clock and its ports. Defined by this
-- project.
use Rattle.std.specs.Prelude.{◌≡◌, ℕ, true, List, Option, Result, Ok, Err}
use Rattle.ipx_carrier.specs.declared.clock.SteppedClock.{SteppedClock}
use Rattle.ipx_carrier.specs.declared.fault.RunFault.{RunFault}
use Rattle.ipx_carrier.specs.declared.report.Report.{Report}
use Rattle.ipx_carrier.specs.Driving.{CanBeginBy}
use Rattle.ipx_carrier.specs.MarkedTurns.{BreaksMarkedTurn, TakesMarkedTurn}
use Rattle.ipx_carrier.specs.Readiness.{Readiness}
use Rattle.ipx_carrier.specs.Stepped.{StepsOn}
use Rattle.ipx_carrier.specs.Turns.{Given, by_ip, peers_of}
use Rattle.ipx_sim_udp.specs.UdpPorts.{PortFails, PortGives, PortRefuses, PortSends, UdpPorts}

-- a turn can begin, there is a list of peers for each port, and no socket failed before
abbrev pub CanTurn : ℕ → ℕ → ℕ → ℕ → Type 0
CanTurn ports sockets lists failures =
    CanBeginBy ports sockets failures × (lists ≡ ports) × (failures ≡ 0)

-- something may wait at any port
abbrev pub all_ready : UdpPorts → Readiness
all_ready p port = true

module _ {C : Type 0} (hears hear_out_of_memory : C → ℕ → List ℕ → ℕ → C → Type 0)
    (gives : C → ℕ → Option Given → C → Type 0) (next_out_of_memory : C → ℕ → C → Type 0)
    (ports : ℕ) where
  -- one turn, and how many of its packets had a node without an IP address; or a part of one, which a fault ends.
  -- The core heard just what the ports gave, and they sent just what it gave
  abbrev pub TakesRunnerTurn : UdpPorts → UdpPorts → SteppedClock → SteppedClock → C → C → Result ℕ RunFault → Type 0
  TakesRunnerTurn at after clock clock_after old new (Ok unmapped) = (report : Report)
      × TakesMarkedTurn hears gives StepsOn PortGives PortSends all_ready ports 1536 (by_ip (peers_of at.peers.items)) at after clock clock_after old new report
      × (unmapped ≡ report.unmapped)
  TakesRunnerTurn at after clock clock_after old new (Err f) =
      BreaksMarkedTurn hears hear_out_of_memory gives next_out_of_memory StepsOn PortGives PortSends PortFails PortRefuses all_ready ports 1536 (by_ip (peers_of at.peers.items)) f at after clock clock_after old new
