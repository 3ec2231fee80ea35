-- The machine of a log: two ends whose numbers never wrap, which take a step at each entry of theirs. It is a
-- fold over the entries, defined for one end together with the other.
use Rattle.std.specs.Prelude.{ℕ, ◌+◌, ◌-◌, ◌==◌, List, [], ◌∷◌, ◌++◌, Option, Some, None, slice_index_or, if◌then◌else◌}
use Rattle.spx_link.specs.SequenceMarks.{mark, distance}
use Rattle.spx_link.specs.Machine.{End, Packet, packet_now, mailed, sent_next, one_more_sent, got, new_end}
use Rattle.spx_link.specs.declared.unit.Unit.{Unit}
use Rattle.spx_link.specs.Offer.{the_end}
use Rattle.spx_messages.specs.Cut.{cut_of}
use Rattle.ipx_wire.specs.Connection.{sequence_in}
use Rattle.spx_theory.specs.Note.{Note, Opened, Accepted, Joined, HandsIn, HandsOut, TakesUnit, AsksEnd, Got, Released, SendsUnit, SendsAgain, SendsSystem, Told, Carried, Injected}

-- an end of the machine, and for each parcel the packet that this end sent as its origin, if it did
pub record Half : Type 0 where
  pub end : End
  pub mail : List (Option Packet)

-- the greatest position below `sent` of this sequence number
abbrev pub position_of : ℕ → ℕ → ℕ
position_of sent seq =
    let back : ℕ = distance (mark sent) seq in sent - (if back == 0 then 65536 else back)

-- the packet of a parcel, if this end sent its origin
abbrev pub mail_of : Half → ℕ → Option Packet
mail_of x parcel = slice_index_or x.mail parcel None

-- a parcel whose origin this end did not send
abbrev pub not_mine : Half → Half
not_mine x = record x { mail = x.mail ++ None ∷ [] }

-- a packet is sent: with the unit of a position that was sent before, or without a unit
abbrev pub posted : Option ℕ → Half → Half → Half
posted position x y =
    record {
      end = mailed position x.end y.end;
      mail = x.mail ++ Some (packet_now position x.end y.end) ∷ [];
    }

-- the next unit is sent
abbrev pub posted_next : Half → Half → Half
posted_next x y =
    record {
      end = sent_next x.end y.end;
      mail = x.mail ++ Some (packet_now (Some x.end.sent) (one_more_sent x.end) y.end) ∷ [];
    }

-- a packet of the peer is received; one that the peer did not send is not
abbrev pub got_mail : Option Packet → Half → Half
got_mail None x = x
got_mail (Some p) x = record x { end = got p x.end }

-- one more unit is taken, and more units are added after the others
abbrev pub one_taken : Half → Half
one_taken x = record x { end = record x.end { taken = x.end.taken + 1 } }

abbrev pub gained : List Unit → Half → Half
gained us x = record x { end = record x.end { units = x.end.units ++ us } }

-- the half x of the end c after an entry, with the half y of its peer
abbrev pub half_after : List (List ℕ) → ℕ → Half → Half → Note → Half
half_after parcels c x y (Opened who host buffers) = x
half_after parcels c x y (Accepted who parcel buffers) = x
half_after parcels c x y (Joined who parcel) = x
half_after parcels c x y (HandsIn who m) = if who == c then gained (cut_of m) x else x
half_after parcels c x y (HandsOut who m) = x
half_after parcels c x y (TakesUnit who u) = if who == c then one_taken x else x
half_after parcels c x y (AsksEnd who) = if who == c then gained (the_end ∷ []) x else x
half_after parcels c x y (Got who parcel) = if who == c then got_mail (mail_of y parcel) x else x
half_after parcels c x y (Released who) = x
half_after parcels c x y (SendsUnit who parcel) = if who == c then posted_next x y else not_mine x
half_after parcels c x y (SendsAgain who parcel) =
    if who == c
    then posted (Some (position_of x.end.sent (sequence_in (slice_index_or parcels parcel [])))) x y
    else not_mine x
half_after parcels c x y (SendsSystem who parcel) = if who == c then posted None x y else not_mine x
half_after parcels c x y (Told router parcel) = not_mine x
half_after parcels c x y (Carried from parcel) = record x { mail = x.mail ++ mail_of x from ∷ [] }
half_after parcels c x y (Injected parcel) = not_mine x

pub record Pair : Type 0 where
  pub one : Half
  pub two : Half

abbrev pub pair_after : List (List ℕ) → ℕ → ℕ → Pair → Note → Pair
pair_after parcels c d p n =
    record {
      one = half_after parcels c p.one p.two n;
      two = half_after parcels d p.two p.one n;
    }

abbrev pub pair_from : List (List ℕ) → ℕ → ℕ → Pair → List Note → Pair
pair_from parcels c d p [] = p
pair_from parcels c d p (n ∷ ns) = pair_from parcels c d (pair_after parcels c d p n) ns

abbrev pub new_half : ℕ → Half
new_half buffers = record { end = new_end buffers; mail = [] }

-- for the ends c and d with a and b buffers
abbrev pub pair_between : ℕ → ℕ → ℕ → ℕ → List (List ℕ) → List Note → Pair
pair_between c d a b parcels log =
    pair_from parcels c d (record { one = new_half a; two = new_half b }) log
