-- Routers with source checks hear nothing of a group or of zero as RIP or SAP by an Ethernet port. Defined by
-- this project.
use Rattle.std.specs.Prelude.{◌≡◌, ℕ, true, List, Some, slice_get}
use Rattle.ipx_wire.specs.Ipx.{BeginsWith, PacketView}
use Rattle.ipx_router.specs.Classify.{class_of}
use Rattle.ipx_source_checks.specs.declared.failed_check.CheckedPort.{CheckedPort}
use Rattle.ipx_source_checks.specs.SourceChecks.{is_control, is_group_or_zero}
use Rattle.ipx_source_checks.specs.SourceChecked.{SourceCheckedView, HearsChecked}

-- bytes that came to this port are RIP or SAP for its router, and their source node is a group or zero
abbrev pub IsControlOfGroup : CheckedPort → List ℕ → Type 0
IsControlOfGroup at bytes = (p : PacketView) × BeginsWith bytes p
    × (is_control (class_of at.port p.header) ≡ true) × (is_group_or_zero p.header.from.node ≡ true)

module _ {C : Type 0} (hears : C → ℕ → List ℕ → ℕ → C → Type 0) where
  -- if such bytes come to an Ethernet port, forwarded or not, the core below does not change
  abbrev pub NoGroupIsHeardAsControl : Type 0
  NoGroupIsHeardAsControl =
      (old new : SourceCheckedView C) (port now : ℕ) (bytes : List ℕ) (at : CheckedPort)
      → slice_get old.ports port ≡ Some at → at.ethernet ≡ true → IsControlOfGroup at bytes
      → HearsChecked hears old port bytes now new → new.core ≡ old.core
