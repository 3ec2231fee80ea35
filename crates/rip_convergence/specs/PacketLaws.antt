-- The laws of packets that the proofs here use. Each field is a clause of a public function of `ipx_wire` or
-- `ipx_control`.
use Rattle.std.specs.Prelude.{◌≡◌, ℕ, List, None}
use Rattle.ipx_wire.specs.Ipx.{PacketView, IsIpx, ipx_fault}
use Rattle.ipx_control.specs.Rip.{RipView, IsRip, rip_fault}

pub record LawsOfPackets : Type 0 where
  -- bytes are at most one packet
  pub one_ipx : (p q : PacketView) (bytes s t : List ℕ) → IsIpx p bytes s → IsIpx q bytes t
      → (p ≡ q) × (s ≡ t)
  pub no_ipx_fault : (p : PacketView) (bytes tail : List ℕ) → IsIpx p bytes tail
      → ipx_fault bytes ≡ None
  pub one_rip : (m n : RipView) (bytes s t : List ℕ) → IsRip m bytes s → IsRip n bytes t
      → (m ≡ n) × (s ≡ t)
  pub no_rip_fault : (m : RipView) (bytes tail : List ℕ) → IsRip m bytes tail
      → rip_fault bytes ≡ None
