-- The rounds of `ipx route`, as calls on its core. The entry points are `RoundsAreCalls`, `RunsAreCalls`,
-- `RoutesByCalls` and `StartedCoresAreNew`. Defined by this project.
use Rattle.std.specs.Prelude.{ℕ, ◌≡◌, ◌≢◌, ◌≤◌, ◌++◌, Bool, true, List, [], Option, Some, flat_map, length}
use Rattle.ipx_carrier.specs.Turns.{Turn, packets_of, received_of}
use Rattle.ipx_carrier.specs.declared.datagrams.Datagrams as OfDevice
use Rattle.ipx_carrier.specs.declared.fault.RunFault.{RunFault}
use Rattle.ipx_carrier.specs.declared.fault.RunFault.TheVariants.{OutOfMemory}
use Rattle.ipx_ethernet_ports.specs.declared.end_sockets.EndSockets as OfSockets
use Rattle.ipx_ethernet_ports.specs.declared.sockets.EthernetSockets.{EthernetSockets}
use Rattle.ipx_ipxnet_ports.specs.declared.place_sockets.PlaceSockets as OfPlaces
use Rattle.ipx_ipxnet_ports.specs.declared.sockets.ServerSockets.{ServerSockets}
use Rattle.ipx_sockets.specs.declared.source_filter.SourceFilter.{SourceFilter}
use Rattle.ipx_sockets.specs.declared.sockets.UdpSockets.{UdpSockets}
use Rattle.ipx_site.specs.PortCalls.{FailsToReceiveAt, FailsToSendBy, ReceivesAtPort, SendsByPort}
use Rattle.ipx_site.specs.PortsView.{SitePortsRun}
use Rattle.ipx_site.specs.RouterPings.{BeginsTurns}
use Rattle.ipx_site.specs.RoutingRuns.{RunsTo, StartsByFile, TakesRound}
use Rattle.ipx_site.specs.SiteMarks.{AfterMarks}
use Rattle.ipx_site.specs.declared.running_router.RunningRouter.{RunningRouter}
use Rattle.theory_processes.specs.Loops.{answers_in, router_gave, router_heard}
use Rattle.theory_processes.specs.RouterCalls.{RouterCall}
use Rattle.theory_processes.specs.PortTurns.{PortsTakeTurns}
use Rattle.theory_processes.specs.SiteCalls.{SiteCallsLead, SiteRuns, numbered}
use Rattle.theory_processes.specs.Together.{IsNewSiteCore}

-- the pings of a round were sent at its time. Then its ports took these turns
abbrev pub PortsTakeRound : {gd : OfDevice.Ghosts (SourceFilter UdpSockets)} {ge : OfSockets.Ghosts EthernetSockets} {gl : OfPlaces.Ghosts ServerSockets} → (whole broken : List Turn) → Option RunFault → SitePortsRun gd ge gl → SitePortsRun gd ge gl → Type 0
PortsTakeRound {gd} {ge} {gl} whole broken fault old ended = (now : ℕ) × (begun : SitePortsRun gd ge gl) × BeginsTurns now old begun
    × PortsTakeTurns ReceivesAtPort SendsByPort FailsToReceiveAt FailsToSendBy whole broken fault begun ended

-- what a round whose batch ended with this fault does to the core is calls. In the turns of the round the ports gave
-- what these calls received, in order, and perhaps one datagram more if memory ran out. What they gave was sent, at a
-- fault perhaps not all of it
pub record RoundByCalls {R : Type 0} (old new : RunningRouter R) (fault : Option RunFault) : Type 0 where
  pub calls : List RouterCall
  pub runs : SiteRuns calls old.core new.core
  pub whole : List Turn
  pub broken : List Turn
  pub ports : AfterMarks (PortsTakeRound whole broken fault old.ports) new.ports
  pub lost : List (ℕ × List ℕ)
  pub lost_at_fault : broken ≡ [] → lost ≡ []
  pub of_memory : lost ≢ [] → fault ≡ Some OutOfMemory
  pub at_most_one : length lost ≤ 1
  pub heard : answers_in numbered (received_of (whole ++ broken)) ≡ flat_map router_heard calls ++ lost
  pub gave : flat_map router_gave calls ≡ packets_of (whole ++ broken)

abbrev pub RoundsAreCalls : Type 0 → Type 0
RoundsAreCalls R = (old new : RunningRouter R) (t : TakesRound old new) → RoundByCalls old new t.batch.fault

-- so is what a run of rounds does
abbrev pub RunsAreCalls : Type 0 → Type 0
RunsAreCalls R = (first last : RunningRouter R) (well : Bool) → RunsTo first last well → SiteCallsLead first.core last.core

-- a router started as a file says, its run from there succeeded, and calls lead from there to where it ended
abbrev pub RoutesByCalls : Type 0 → Type 0
RoutesByCalls R = (first last : RunningRouter R) × StartsByFile first × RunsTo first last true
    × SiteCallsLead first.core last.core

-- a router that started as a file says has a core with nothing to send
abbrev pub StartedCoresAreNew : Type 0 → Type 0
StartedCoresAreNew R = (first : RunningRouter R) → StartsByFile first → IsNewSiteCore first.core
