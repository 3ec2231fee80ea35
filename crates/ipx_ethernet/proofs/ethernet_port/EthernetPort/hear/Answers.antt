use Rattle.std.proofs.Common.{rules, ◌≡◌, refl, sym, ◌∙◌, ap, subst}
use Rattle.ipx_ethernet.specs.declared.encapsulation.Encapsulation.{Encapsulation}
use Rattle.ipx_ethernet.specs.Frame.{FrameView, IsFrame, frame_view}
use Rattle.ipx_ethernet.proofs.ethernet_port.EthernetPort.hear.Goals as goal

pub returns-in-Err-clause-kept : goal.returns-in-Err-clause-kept
returns-in-Err-clause-kept c =
    let found = c.in_ok-frame.ensures.found in
    let same : c.in_ok-frame.encapsulation ≡ c.args.self.now.encapsulation = search rules in
    let P : Encapsulation → Type 0 = λ e. IsFrame e (frame_view c.in_ok-frame.frame) c.args.bytes.now found.0 in
    (frame_view c.in_ok-frame.frame, found.0, subst P same found.1, c.in_ok-frame.ensures.heard, c.in-Err.ensures.other.0, c.in-Err.ensures.other.1)

pub returns-clause-heard : goal.returns-clause-heard
returns-clause-heard c =
    let found = c.in_ok-frame.ensures.found in
    let same : c.in_ok-frame.encapsulation ≡ c.args.self.now.encapsulation = search rules in
    let P : Encapsulation → Type 0 = λ e. IsFrame e (frame_view c.in_ok-frame.frame) c.args.bytes.now found.0 in
    (frame_view c.in_ok-frame.frame, found.0, subst P same found.1, c.in_ok-frame.ensures.heard, c.in_default.ensures.admitted, refl)

pub returns-clause-only : goal.returns-clause-only
returns-clause-only c packet h =
    let same = c.in_ok-frame.ensures.only c.args.self.now.encapsulation h.0 h.1 h.2 h.3 in
    ap (λ (f : FrameView). f.packet) same.1 ∙ sym h.5
