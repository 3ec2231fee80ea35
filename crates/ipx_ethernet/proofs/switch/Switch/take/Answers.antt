use Rattle.std.proofs.Common.{◌≡◌, List, ℕ, IfOk, IsOkAnd, ap, subst}
use Rattle.ipx_ethernet.specs.declared.ethernet_port.EthernetPort.{EthernetPort}
use Rattle.ipx_ethernet.specs.PortFrames.{IsForCore}
use Rattle.ipx_ethernet.specs.Heard.{SwitchView}
use Rattle.ipx_ethernet.proofs.switch.Switch.take.Goals as goal

pub returns-in-Ok-clause-heard : goal.returns-in-Ok-clause-heard
returns-in-Ok-clause-heard c =
    let P : EthernetPort → Type 0 = λ p. IfOk c.hear-taken.result (λ r. IsForCore p c.args.bytes.now r.now) in
    subst P (ap (λ (h : SwitchView). h.port) c.self.view_is) c.hear-taken.ensures.heard

pub returns-in-Ok-clause-only : goal.returns-in-Ok-clause-only
returns-in-Ok-clause-only c =
    let P : EthernetPort → Type 0 = λ p. (packet : List ℕ) → IsForCore p c.args.bytes.now packet → IsOkAnd c.hear-taken.result (λ r. r.now ≡ packet) in
    subst P (ap (λ (h : SwitchView). h.port) c.self.view_is) c.hear-taken.ensures.only
