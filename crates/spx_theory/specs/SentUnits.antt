-- The packets of units: each carries the unit of its position with the number of that position (Novell SPX:
-- the sequence number).
use Rattle.std.specs.Prelude.{ℕ, ◌≡◌, ◌<◌, ◌≤◌, false, List, [], ◌∷◌, ◌++◌, Some, slice_get, slice_index_or}
use Rattle.ipx_wire.specs.declared.spx.packet.SpxHeader.{SpxHeader}
use Rattle.ipx_wire.specs.Ipx.{PacketView}
use Rattle.spx_link.specs.declared.unit.Unit.{Unit}
use Rattle.spx_link.specs.LinkView.{LinkView}
use Rattle.spx_link.specs.SequenceMarks.{mark}
use Rattle.spx_link.specs.Receive.{is_system}
use Rattle.spx_link.specs.Units.{unit_in}
use Rattle.ipx_wire.specs.Connection.{IsConnectionPacket, sequence_in}
use Rattle.spx_theory.specs.PairQueues.{SendsFrom}
use Rattle.spx_theory.specs.Note.{Note, SendsUnit, SendsAgain}
use Rattle.spx_theory.specs.Scan.{times, scan}
use Rattle.spx_theory.specs.Handed.{units_of}
use Rattle.spx_theory.specs.PairLog.{position_of}
use Rattle.spx_theory.specs.Scene.{Scene, PresentEnd, IsPresent}

-- how many units an end had sent
abbrev pub sent_by : ℕ → List Note → ℕ
sent_by e log = times e (scan log).sent

-- any SPX packet that the bytes are has this header and body
abbrev pub SaysOnly : SpxHeader → List ℕ → List ℕ → Type 0
SaysOnly h body bytes =
    (p : PacketView) (k : SpxHeader) (other : List ℕ)
    → IsConnectionPacket p k other bytes → (k ≡ h) × (other ≡ body)

-- the bytes are a packet with this unit and this number, and no other packet
pub record IsUnitPacket (u : Unit) (number : ℕ) (bytes : List ℕ) : Type 0 where
  pub packet : PacketView
  pub header : SpxHeader
  pub body : List ℕ
  pub is : IsConnectionPacket packet header body bytes
  pub only : SaysOnly header body bytes
  pub unit : unit_in header body ≡ u
  pub whole : body ≡ u.body.items
  pub reads : is_system header ≡ false
  pub number_is : header.seq ≡ number

-- the parcel carries the unit of this position of an end
abbrev pub CarriesUnit : Scene → ℕ → ℕ → ℕ → Type 0
CarriesUnit s who n parcel =
    (u : Unit) × (bytes : List ℕ)
    × (slice_get (units_of who s.log) n ≡ Some u) × (slice_get s.parcels parcel ≡ Some bytes)
    × IsUnitPacket u (mark n) bytes

pub record UnitsAreSentInOrder (s : Scene) : Type 0 where
  -- a unit that is sent for the first time is the next one, in order
  pub first : (before after : List Note) (who parcel : ℕ)
      → s.log ≡ before ++ SendsUnit who parcel ∷ after
      → CarriesUnit s who (sent_by who before) parcel
  -- a unit that is sent again is the one at the greatest position, of those sent, that has the sequence
  -- number of the bytes
  pub again : (before after : List Note) (who parcel : ℕ)
      → s.log ≡ before ++ SendsAgain who parcel ∷ after
      → let n : ℕ = position_of (sent_by who before)
      (sequence_in (slice_index_or s.parcels parcel [])) in
      (n < sent_by who before) × CarriesUnit s who n parcel

-- the next number of every end is that of the first unit that it has not sent, and its queue is the rest of
-- its units
abbrev pub LinksSendInOrder : Scene → Type 0
LinksSendInOrder s =
    (who : ℕ) (e : PresentEnd) (l : LinkView) → IsPresent s who e l
    → SendsFrom l (units_of who s.log) (sent_by who s.log)

-- if a position below `sent` has this number, `position_of` is the greatest one
abbrev pub PositionsAreGreatest : Type 0
PositionsAreGreatest =
    (sent n : ℕ) → n < sent
    → let p : ℕ = position_of sent (mark n) in (p < sent) × (mark p ≡ mark n) × (n ≤ p)
