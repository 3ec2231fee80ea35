-- Definitions for the private functions that answer in place.
use Rattle.std.specs.Prelude.{◌≡◌, ℕ, ◌+◌, List, length, None}
use Rattle.ipx_wire.specs.declared.ipx.packet.IpxHeader.{IpxHeader}
use Rattle.ipx_wire.specs.Assigned.{ipx_header_size}
use Rattle.ipx_wire.specs.Ipx.{BeginsWith, IsIpx, PacketView, ipx_fault, packet_of}
use Rattle.ipx_router.specs.declared.classify.PacketClass.TheVariants as classes
use Rattle.ipx_router.specs.declared.port.Port.{Port}
use Rattle.ipx_router.specs.Classify.{class_of}
use Rattle.ipx_router.specs.OutcomeView.{OutcomeView, Forward, Replies, Heard, Dropped}

-- the bytes begin with a packet for another network, of this header, and it has `count` bytes
pub record IsOnward (arrived : Port) (bytes : List ℕ) (h : IpxHeader) (count : ℕ) : Type 0 where
  pub body : List ℕ
  pub tail : List ℕ
  pub packet : IsIpx (packet_of h body) bytes tail
  pub size : ipx_header_size + length body ≡ count
  pub packet_class : class_of arrived h ≡ classes.Forward
  pub whole : ipx_fault bytes ≡ None
  pub only : (d : PacketView) → BeginsWith bytes d → d ≡ packet_of h body

-- nothing is forwarded
abbrev pub ForwardsNothing : OutcomeView → Type 0
ForwardsNothing (Forward port next bytes) = ⊥
ForwardsNothing (Replies sent) = Unit {0}
ForwardsNothing (Heard n) = Unit {0}
ForwardsNothing (Dropped reason) = Unit {0}
