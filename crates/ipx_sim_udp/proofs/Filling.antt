-- Messages of one byte, one after another.
use Rattle.std.proofs.Common.{◌≡◌, ◌∙◌, ℕ, ◌+◌, ◌%◌, suc, Ok, refl, subst, inl, inr, arith}
use Rattle.ipx_sim_udp.specs.UdpCalls.{FillsUdpEnd, KeepsOtherParts, SendsAt, SendsByte, of_byte}
use Rattle.ipx_sim_udp.specs.declared.layout_binding.UdpNet.{UdpNet}
use Rattle.ipx_sim_udp.specs.declared.stop.UdpScriptFault.TheVariants as Stops
use Rattle.ipx_sim_udp.proofs.Held.{no_fault}

pub rest_same : (s : UdpNet) → KeepsOtherParts s s
rest_same s = record { routers = refl; order = refl; moment = refl; unmapped = refl }

pub rest_on : (a b c : UdpNet) → KeepsOtherParts a b → KeepsOtherParts b c → KeepsOtherParts a c
rest_on a b c h k =
    record { routers = k.routers ∙ h.routers; order = k.order ∙ h.order; moment = k.moment ∙ h.moment; unmapped = k.unmapped ∙ h.unmapped }

-- one more
pub fills_more : (who k byte : ℕ) (x : Unit {0}) (old mid new : UdpNet) → byte ≡ k % 256 → FillsUdpEnd who k old mid → SendsByte who byte mid new (Ok x)
    → FillsUdpEnd who (k + 1) old new
fills_more who k byte x old mid new is fills (inl sends) =
    let next : suc k ≡ k + 1 = omega arith in
    subst (λ (n : ℕ). FillsUdpEnd who n old new) next (mid, fills, subst (λ (b : ℕ). SendsAt who (of_byte b) mid new (Ok x)) is sends)
fills_more who k byte x old mid new is fills (inr none) = absurd (no_fault x Stops.Memory none.0)
