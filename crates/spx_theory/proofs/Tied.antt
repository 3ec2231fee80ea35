-- How the link of an end c and the parcels that it sent are tied to its half of the machine, with that of d.
use Rattle.std.specs.Prelude.{ℕ, ◌≡◌, ◌<◌, ◌≤◌, Bool, List, length, take, Some, slice_get, slice_index_or}
use Rattle.ipx_wire.specs.declared.spx.packet.SpxHeader.{SpxHeader}
use Rattle.ipx_wire.specs.Ipx.{PacketView}
use Rattle.spx_link.specs.LinkView.{LinkView}
use Rattle.spx_link.specs.Limits.{most_units}
use Rattle.std.specs.Prelude.{Contains}
use Rattle.spx_link.specs.Machine.{AreSound, Packet, WasSent}
use Rattle.spx_theory.proofs.Running.{Runs}
use Rattle.ipx_wire.specs.Connection.{IsConnectionPacket}
use Rattle.spx_theory.specs.Scan.{Mark, times, nowhere}
use Rattle.spx_theory.specs.Peers.{end_of}
use Rattle.spx_theory.specs.PairLog.{Half}
use Rattle.spx_theory.specs.Tracks.{Formed, Follows}
use Rattle.spx_theory.specs.Spelling.{Spells, Carries}
use Rattle.spx_theory.specs.Scene.{PresentEnd}

abbrev pub mark_at : List Mark → ℕ → Mark
mark_at marks k = slice_index_or marks k nowhere

-- the parcel k, whose origin the end c sent as the packet q
pub record Letter (c d : ℕ) (parcels : List (List ℕ)) (marks : List Mark) (sent : List ℕ) (x y : Half) (k : ℕ) (q : Packet) : Type 0 where
  pub was : WasSent x.end y.end q
  pub posted : Contains x.end.bag q
  pub maker : end_of (mark_at marks k).maker ≡ Some c
  pub own : q.sender_sent ≡ times c (take (mark_at marks k).units sent)
  pub other : q.receiver_sent ≡ times d (take (mark_at marks k).units sent)
  pub within : (mark_at marks k).units ≤ length sent
  -- any SPX packet that its bytes are has these numbers and carries the unit
  pub says : (bytes : List ℕ) → slice_get parcels k ≡ Some bytes → (p : PacketView) (h : SpxHeader) (body : List ℕ) → IsConnectionPacket p h body bytes
      → Spells q h × Carries q.position x.end.units h body

pub record Tied (c d : ℕ) (ends : List PresentEnd) (parcels : List (List ℕ)) (marks : List Mark) (sent : List ℕ) (x y : Half) : Type 0 where
  pub link : (e : PresentEnd) (l : LinkView) → slice_get ends c ≡ Some e → e.link ≡ Some l → Follows l x.end y.end
  pub letters : (k : ℕ) (q : Packet) → slice_get x.mail k ≡ Some (Some q) → Letter c d parcels marks sent x y k q
  pub all : (k : ℕ) → k < length marks → end_of (mark_at marks k).maker ≡ Some c → (q : Packet) × (slice_get x.mail k ≡ Some (Some q))
  pub mail : length x.mail ≡ length marks
  pub count : x.end.sent ≡ times c sent
  pub formed : (closed : Bool) × Formed x.end.units closed
  pub small : x.end.buffers ≤ most_units

-- the pair: its machine is sound, and both halves are tied
pub record Whole (c d : ℕ) (ends : List PresentEnd) (parcels : List (List ℕ)) (marks : List Mark) (sent : List ℕ) (x y : Half) : Type 0 where
  pub sound : AreSound x.end y.end
  pub run : Runs x.end y.end
  pub one : Tied c d ends parcels marks sent x y
  pub two : Tied d c ends parcels marks sent y x
  pub count : length marks ≡ length parcels
