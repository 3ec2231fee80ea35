-- What a router does to a world: it forwards a parcel, or sends its own packets (Novell router
-- specification). What it holds itself is not part of a world here.
use Rattle.std.specs.Prelude.{ℕ, ◌≡◌, ◌≢◌, ◌+◌, List, [], ◌∷◌, ◌++◌, length, Some, slice_get}
use Rattle.ipx_wire.specs.declared.address.Network.{Network}
use Rattle.ipx_wire.specs.declared.address.Node.{Node}
use Rattle.ipx_wire.specs.Ipx.{PacketView, IsIpx}
use Rattle.spx_theory.specs.Note.{Note}
use Rattle.spx_theory.specs.Scan.{Each}
use Rattle.spx_theory.specs.PacketsOnWay.{IsOneOn}
use Rattle.spx_theory.specs.World.{World, ParcelView, AtPort}
use Rattle.spx_theory.specs.Note as Notes

-- a packet that a router made itself, which is of no connection
pub record IsOwnLetter (l : ParcelView) : Type 0 where
  pub packet : PacketView
  pub is : IsIpx packet l.bytes []
  pub kind : packet.header.kind ≢ 5

abbrev pub told_notes : ℕ → ℕ → List ParcelView → List Note
told_notes router count [] = []
told_notes router count (l ∷ ls) = Notes.Told router count ∷ told_notes router (count + 1) ls

-- it sends packets that it made itself: replies to a parcel, or what it advertises when it is polled
pub record GivesOwnLetters (old : World) (router : ℕ) (letters : List ParcelView)
    (new : World) : Type 0 where
  pub own : Each IsOwnLetter letters
  pub hosts : new.hosts ≡ old.hosts
  pub ends : new.ends ≡ old.ends
  pub parcels : new.parcels ≡ old.parcels ++ letters
  pub log : new.log ≡ old.log ++ told_notes router (length old.parcels) letters
  pub moment : new.moment ≡ old.moment

-- a parcel is forwarded, from the port on whose network it was sent
pub record CarriesOn (old : World) (parcel router port : ℕ) (segment : Network) (next : Node)
    (bytes : List ℕ) (new : World) : Type 0 where
  pub letter : ParcelView
  pub comes : slice_get old.parcels parcel ≡ Some letter
  pub on : IsOneOn letter.segment letter.bytes bytes
  pub hosts : new.hosts ≡ old.hosts
  pub ends : new.ends ≡ old.ends
  pub parcels : new.parcels ≡ old.parcels ++ record {
    segment = segment;
    next = next;
    bytes = bytes;
    sent_by = Some (AtPort router port);
  } ∷ []
  pub log : new.log ≡ old.log ++ Notes.Carried parcel (length old.parcels) ∷ []
  pub moment : new.moment ≡ old.moment
