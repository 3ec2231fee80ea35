-- RIP or SAP of a group or of zero fails a source check at an Ethernet port.
use Rattle.std.proofs.Common.{◌≡◌, ◌==◌, ℕ, Bool, true, false, List, Some, ap, refl, slice_get, inl, inr}
use Rattle.ipx_wire.specs.declared.ipx.packet.IpxHeader.{IpxHeader}
use Rattle.ipx_router.specs.Classify.{class_of}
use Rattle.ipx_source_checks.specs.declared.failed_check.CheckedPort.{CheckedPort}
use Rattle.ipx_source_checks.specs.declared.failed_check.FailedCheck.{FailedCheck}
use Rattle.ipx_source_checks.specs.declared.failed_check.SourceFault.{SourceFault}
use Rattle.ipx_source_checks.specs.declared.failed_check.SourceFault.TheVariants.{ForwardedControl, GroupSource}
use Rattle.ipx_source_checks.specs.GroupIsNoControl.{IsControlOfGroup}
use Rattle.ipx_source_checks.specs.SourceChecked.{HearsChecked, SourceCheckedView}
use Rattle.ipx_source_checks.specs.SourceChecks.{FailsAt, FailsCheck, is_control, is_group_or_zero}

-- RIP or SAP that was forwarded fails one check, and what was not forwarded the other
either : (at : CheckedPort) (h : IpxHeader) (none ether group control : Bool) → (h.hops == 0) ≡ none → at.ethernet ≡ ether → is_group_or_zero h.from.node ≡ group
    → is_control (class_of at.port h) ≡ control → ether ≡ true → group ≡ true → control ≡ true → (fault : SourceFault) × FailsCheck at h fault
either at h true ether group control n e g c e1 g1 c1 = (GroupSource, cc)
either at h false ether group control n e g c e1 g1 c1 = (ForwardedControl, cc)

fails : (ports : List CheckedPort) (port : ℕ) (at : CheckedPort) (bytes : List ℕ) → slice_get ports port ≡ Some at → at.ethernet ≡ true → IsControlOfGroup at bytes
    → (f : FailedCheck) × FailsAt ports port bytes f
fails ports port at bytes there ether of =
    let (p, begins, control, group) = of in
    let (fault, is) = either at p.header (p.header.hops == 0) at.ethernet (is_group_or_zero p.header.from.node) (is_control (class_of at.port p.header)) refl refl refl refl ether group control in
    let f : FailedCheck = record {
      fault = fault;
      packet = record { port = port; to = Some p.header.to; from = Some p.header.from };
      network = at.port.network;
    } in
    (f, (at, there, (p, begins, is, refl, refl)))

pub not_heard : {C : Type 0} (hears : C → ℕ → List ℕ → ℕ → C → Type 0) (old new : SourceCheckedView C) (port now : ℕ) (bytes : List ℕ) (at : CheckedPort)
    → slice_get old.ports port ≡ Some at → at.ethernet ≡ true → IsControlOfGroup at bytes → HearsChecked hears old port bytes now new → new.core ≡ old.core
not_heard {C} hears old new port now bytes at there ether of h = elim h [
  | inl dropped ↦ ap (λ (v : SourceCheckedView C). v.core) dropped.2
  | inr heard ↦
      let (f, is) = fails old.ports port at bytes there ether of in
      absurd (heard.0 f is)
]
