-- What a router forwarded fails a source check if it is RIP or SAP for the router that receives it.
use Rattle.std.proofs.Common.{◌≡◌, ◌∙◌, ◌+◌, ℕ, List, [], true, not, ◌==◌, ◌&&◌, Some, ap, refl, arith, slice_get, inl, inr}
use Rattle.std.proofs.lemmas.Bool.Decides.{nat_tests}
use Rattle.ipx_wire.specs.Ipx.{IsIpx, PacketView}
use Rattle.ipx_wire.specs.declared.ipx.packet.IpxHeader.{IpxHeader}
use Rattle.ipx_router.specs.declared.port.Port.{Port}
use Rattle.ipx_router.specs.Classify.{class_of}
use Rattle.ipx_router.specs.RouterView.{RouterView}
use Rattle.ipx_source_checks.specs.declared.failed_check.CheckedPort.{CheckedPort}
use Rattle.ipx_source_checks.specs.declared.failed_check.FailedCheck.{FailedCheck}
use Rattle.ipx_source_checks.specs.declared.failed_check.SourceFault.TheVariants.{ForwardedControl}
use Rattle.ipx_source_checks.specs.ForwardedIsNoControl.{IsControlAt, IsForwardedBy}
use Rattle.ipx_source_checks.specs.SourceChecked.{HearsChecked, SourceCheckedView}
use Rattle.ipx_source_checks.specs.SourceChecks.{FailsAt, is_control, is_forwarded_control}

abbrev OnePacket : Type 0
OnePacket = (p q : PacketView) (bytes s t : List ℕ) → IsIpx p bytes s → IsIpx q bytes t → (p ≡ q) × (s ≡ t)

over_none : (hops n : ℕ) → hops ≡ n + 1 → not (hops == 0) ≡ true
over_none hops n is = grind (arith, nat_tests)

forwarded : (at : Port) (h : IpxHeader) (n : ℕ) → h.hops ≡ n + 1 → is_control (class_of at h) ≡ true → is_forwarded_control at h ≡ true
forwarded at h n is control = ap (λ b. b && is_control (class_of at h)) (over_none h.hops n is) ∙ control

-- the hops of what a router forwarded
hops_of : OnePacket → (r : RouterView) (sent : List ℕ) → IsForwardedBy r sent → (p : PacketView) (tail : List ℕ) → IsIpx p sent tail
    → (n : ℕ) × (p.header.hops ≡ n + 1)
hops_of one r sent by p tail is =
    let (port, bytes, out, next, on) = by in
    let (arrived, at, came, each) = on in
    let sends = each came.0 came.1 in
    let same = one p _ sent tail [] is sends.1.packet in
    (came.0.header.hops, ap (λ (q : PacketView). q.header.hops) same.0)

fails : OnePacket → (r : RouterView) (sent : List ℕ) → IsForwardedBy r sent → (ports : List CheckedPort) (port : ℕ) (at : CheckedPort) → slice_get ports port ≡ Some at
    → IsControlAt at.port sent → (f : FailedCheck) × FailsAt ports port sent f
fails one r sent by ports port at there control =
    let (p, begins, is) = control in
    let (n, hops) = hops_of one r sent by p begins.0 begins.1 in
    let f : FailedCheck = record {
      fault = ForwardedControl;
      packet = record { port = port; to = Some p.header.to; from = Some p.header.from };
      network = at.port.network;
    } in
    (f, (at, there, (p, begins, forwarded at.port p.header n hops is, refl, refl)))

pub not_heard : OnePacket → {C : Type 0} (hears : C → ℕ → List ℕ → ℕ → C → Type 0) (r : RouterView) (sent : List ℕ) → IsForwardedBy r sent
    → (old new : SourceCheckedView C) (port now : ℕ) (at : CheckedPort) → slice_get old.ports port ≡ Some at
    → IsControlAt at.port sent → HearsChecked hears old port sent now new → new.core ≡ old.core
not_heard one {C} hears r sent by old new port now at there control h = elim h [
  | inl dropped ↦ ap (λ (v : SourceCheckedView C). v.core) dropped.2
  | inr heard ↦
      let (f, is) = fails one r sent by old.ports port at there control in
      absurd (heard.0 f is)
]
