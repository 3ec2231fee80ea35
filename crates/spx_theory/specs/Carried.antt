-- Routers change only the hop count (Novell IPX: transport control), and the source network if a packet has
-- none.
use Rattle.std.specs.Prelude.{ℕ, ◌≡◌, ◌<◌, ◌≤◌, ◌+◌, ◌⊎◌, List, [], Some, slice_get}
use Rattle.ipx_wire.specs.declared.address.Network.{Network}
use Rattle.ipx_wire.specs.Ipx.{PacketView, IsIpx}
use Rattle.spx_theory.specs.Scan.{Mark, scan, mark_of}
use Rattle.spx_theory.specs.Scene.{Scene}
use Rattle.spx_theory.specs.PacketsOnWay.{one_on}

-- the packet after so many routers, the first of which got it on this network
abbrev pub after_routers : ℕ → Network → PacketView → PacketView
after_routers passed network p =
    let once : PacketView = one_on network p in
    record once { header = record once.header { hops = p.header.hops + passed } }

-- the bytes are the packet of the origin after so many routers, without what followed it; the hop count is at
-- most 15
pub record IsCarried (network : Network) (passed : ℕ) (origin bytes : List ℕ) : Type 0 where
  pub packet : PacketView
  pub tail : List ℕ
  pub is : IsIpx packet origin tail
  pub becomes : IsIpx (after_routers passed network packet) bytes []
  pub most : packet.header.hops + passed ≤ 15

-- a parcel is its origin, or was forwarded from it by routers
abbrev pub IsFromOrigin : Network → ℕ → List ℕ → List ℕ → Type 0
IsFromOrigin network passed origin bytes =
    ((passed ≡ 0) × (bytes ≡ origin)) ⊎ ((0 < passed) × IsCarried network passed origin bytes)

abbrev pub RoutersAlterOnlyHops : Scene → Type 0
RoutersAlterOnlyHops s = (k : ℕ) (bytes : List ℕ) → slice_get s.parcels k ≡ Some bytes
    → let m : Mark = mark_of (scan s.log) k in
    (origin : List ℕ) × (network : Network)
    × (slice_get s.parcels m.origin ≡ Some origin) × (slice_get s.segments m.origin ≡ Some network)
    × IsFromOrigin network m.passed origin bytes
