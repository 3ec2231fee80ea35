-- Routers with source checks hear nothing that a router forwarded as RIP or SAP. Defined by this project.
use Rattle.std.specs.Prelude.{◌≡◌, ℕ, true, List, Some, slice_get}
use Rattle.ipx_wire.specs.declared.address.Node.{Node}
use Rattle.ipx_wire.specs.Ipx.{BeginsWith, PacketView}
use Rattle.ipx_router.specs.declared.port.Port.{Port}
use Rattle.ipx_router.specs.Classify.{class_of}
use Rattle.ipx_router.specs.Forwarded.{ForwardsOneHopOn}
use Rattle.ipx_router.specs.OutcomeView.{Forward}
use Rattle.ipx_router.specs.RouterView.{RouterView}
use Rattle.ipx_source_checks.specs.declared.failed_check.CheckedPort.{CheckedPort}
use Rattle.ipx_source_checks.specs.SourceChecks.{is_control}
use Rattle.ipx_source_checks.specs.SourceChecked.{SourceCheckedView, HearsChecked}

-- a router forwards these bytes for a datagram that came to it
abbrev pub IsForwardedBy : RouterView → List ℕ → Type 0
IsForwardedBy r sent = (port : ℕ) × (bytes : List ℕ) × (by : ℕ) × (next : Node)
    × ForwardsOneHopOn r port bytes (Forward by next sent)

-- bytes that came to this port are RIP or SAP for its router
abbrev pub IsControlAt : Port → List ℕ → Type 0
IsControlAt at bytes = (p : PacketView) × BeginsWith bytes p × (is_control (class_of at p.header) ≡ true)

module _ {C : Type 0} (hears : C → ℕ → List ℕ → ℕ → C → Type 0) where
  -- if what any router forwards is RIP or SAP at the port where it arrives, the core below does not change
  abbrev pub NoForwardedPacketIsHeardAsControl : Type 0
  NoForwardedPacketIsHeardAsControl =
      (r : RouterView) (sent : List ℕ) → IsForwardedBy r sent
      → (old new : SourceCheckedView C) (port now : ℕ) (at : CheckedPort) → slice_get old.ports port ≡ Some at
      → IsControlAt at.port sent → HearsChecked hears old port sent now new → new.core ≡ old.core
