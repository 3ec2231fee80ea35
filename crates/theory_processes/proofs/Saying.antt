-- What entries say of new units, of packets that ends read, and of packets that they sent; and scenes whose log grew by
-- such entries.
use Rattle.std.proofs.Common.{◌≡◌, ◌+◌, ◌⊎◌, ℕ, Bool, true, false, List, [], ◌∷◌, ◌++◌, Option, Some, None, refl, ◌∙◌, ap, subst}
use Rattle.std.specs.Prelude.{Result, Ok, Err, is_some, slice_get}
use Rattle.ipx_carrier.specs.Turns.{Given}
use Rattle.spx_link.specs.declared.outgoing.Sent.{Sent}
use Rattle.spx_link.specs.declared.received.Received.{Received}
use Rattle.spx_link.specs.declared.received.Received.TheVariants as Receiveds
use Rattle.spx_link.specs.declared.unit.Unit.{Unit as SpxUnit}
use Rattle.spx_messages.specs.Taking.{TakenView}
use Rattle.spx_messages.specs.Taking as takens
use Rattle.spx_messages.specs.declared.arrived.Arrived.{Arrived}
use Rattle.spx_messages.specs.declared.arrived.Arrived.TheVariants as Arriveds
use Rattle.spx_messages.specs.declared.fault.EndFault.{EndFault}
use Rattle.spx_theory.specs.DeedRuns.{Deeds}
use Rattle.spx_theory.specs.Handed.{gathered}
use Rattle.spx_theory.specs.HostSteps.{arrival_notes, heard_notes, read_notes, unit_notes, whole_notes}
use Rattle.spx_theory.specs.Note.{Note, Got, SendsUnit}
use Rattle.spx_theory.specs.PacketsOnWay.{note_of, notes_of}
use Rattle.spx_theory.specs.Routers.{told_notes}
use Rattle.spx_theory.specs.Scene.{Scene}
use Rattle.spx_theory.specs.World.{HostState, ParcelView, end_at}
use Rattle.theory_processes.specs.Shows.{sent_by, sent_in}
use Rattle.theory_processes.specs.Site.{Connection}
use Rattle.theory_processes.specs.Timely.{is_read}
use Rattle.theory_processes.proofs.Notes.{gathered_more}

-- the end that sends a unit for the first time
abbrev pub unit_of : Note → List ℕ
unit_of (SendsUnit who parcel) = who ∷ []
unit_of n = []

-- the parcel that an end reads
abbrev pub got_of : Note → List ℕ
got_of (Got who parcel) = parcel ∷ []
got_of n = []

pub record Says (units gots sends : List ℕ) (ns : List Note) : Type 0 where
  pub units_are : gathered unit_of ns ≡ units
  pub gots_are : gathered got_of ns ≡ gots
  pub sends_are : sent_in ns ≡ sends

-- nothing of these
abbrev pub IsSilent : List Note → Type 0
IsSilent ns = Says [] [] [] ns

pub silent_none : IsSilent []
silent_none = record { units_are = refl; gots_are = refl; sends_are = refl }

pub silent_more : (xs ys : List Note) → IsSilent xs → IsSilent ys → IsSilent (xs ++ ys)
silent_more xs ys one two =
    record {
      units_are = gathered_more unit_of xs ys ∙ ap (λ zs. zs ++ gathered unit_of ys) one.units_are ∙ two.units_are;
      gots_are = gathered_more got_of xs ys ∙ ap (λ zs. zs ++ gathered got_of ys) one.gots_are ∙ two.gots_are;
      sends_are = gathered_more sent_by xs ys ∙ ap (λ zs. zs ++ sent_in ys) one.sends_are ∙ two.sends_are;
    }

pub silent_told : (router count : ℕ) (ls : List ParcelView) → IsSilent (told_notes router count ls)
silent_told router count [] = silent_none
silent_told router count (l ∷ ls) =
    let q : IsSilent (told_notes router (count + 1) ls) = silent_told router (count + 1) ls in record { units_are = q.units_are; gots_are = q.gots_are; sends_are = q.sends_are }

silent_unit : (a : Result TakenView EndFault) (u : Option SpxUnit) (who : ℕ) → IsSilent (unit_notes a u who)
silent_unit (Ok t) None who = silent_none
silent_unit (Ok t) (Some u) who = record { units_are = refl; gots_are = refl; sends_are = refl }
silent_unit (Err f) u who = silent_none

silent_whole : (a : Result TakenView EndFault) (who : ℕ) → IsSilent (whole_notes a who)
silent_whole (Ok takens.Nothing) who = silent_none
silent_whole (Ok takens.Part) who = silent_none
silent_whole (Ok (takens.Whole m)) who = record { units_are = refl; gots_are = refl; sends_are = refl }
silent_whole (Ok takens.PeerEnd) who = silent_none
silent_whole (Err f) who = silent_none

pub silent_take : (a : Result TakenView EndFault) (u : Option SpxUnit) (who : ℕ) → IsSilent (unit_notes a u who ++ whole_notes a who)
silent_take a u who = silent_more (unit_notes a u who) (whole_notes a who) (silent_unit a u who) (silent_whole a who)

-- ---- a parcel is read, and no other; or none is

abbrev pub AreAll : ℕ → List ℕ → Type 0
AreAll p [] = Unit {0}
AreAll p (q ∷ qs) = (q ≡ p) × AreAll p qs

abbrev pub IsHearing : ℕ → Bool → List Note → Type 0
IsHearing p read ns = (gots : List ℕ) × Says [] gots [] ns × AreAll p gots × (read ≡ false → gots ≡ [])

pub silent_hearing : (p : ℕ) (read : Bool) (ns : List Note) → IsHearing p read ns → read ≡ false → IsSilent ns
silent_hearing p read ns h not = subst (λ gots. Says [] gots [] ns) (h.3 not) h.1

hearing_none : (p : ℕ) (read : Bool) → IsHearing p read []
hearing_none p read = ([], silent_none, tt, λ not. refl)

hearing_one : (p : ℕ) (ns : List Note) → Says [] (p ∷ []) [] ns → IsHearing p true ns
hearing_one p ns says = (p ∷ [], says, (refl, tt), λ not. absurd (cc not))

hearing_read : (r : Received) (who parcel : ℕ) → IsHearing parcel true (notes_of r who parcel)
hearing_read Receiveds.Joined who parcel = hearing_one parcel (notes_of Receiveds.Joined who parcel) (record { units_are = refl; gots_are = refl; sends_are = refl })
hearing_read Receiveds.Kept who parcel = hearing_one parcel (notes_of Receiveds.Kept who parcel) (record { units_are = refl; gots_are = refl; sends_are = refl })
hearing_read Receiveds.Repeat who parcel = hearing_one parcel (notes_of Receiveds.Repeat who parcel) (record { units_are = refl; gots_are = refl; sends_are = refl })
hearing_read Receiveds.Ahead who parcel = hearing_one parcel (notes_of Receiveds.Ahead who parcel) (record { units_are = refl; gots_are = refl; sends_are = refl })
hearing_read Receiveds.OverAllocation who parcel = hearing_one parcel (notes_of Receiveds.OverAllocation who parcel) (record { units_are = refl; gots_are = refl; sends_are = refl })
hearing_read Receiveds.System who parcel = hearing_one parcel (notes_of Receiveds.System who parcel) (record { units_are = refl; gots_are = refl; sends_are = refl })
hearing_read Receiveds.PeerEnded who parcel = hearing_one parcel (notes_of Receiveds.PeerEnded who parcel) (record { units_are = refl; gots_are = refl; sends_are = refl })
hearing_read Receiveds.Confirmed who parcel = hearing_one parcel (notes_of Receiveds.Confirmed who parcel) (record { units_are = refl; gots_are = refl; sends_are = refl })
hearing_read Receiveds.Stranger who parcel = hearing_none parcel true

hearing_by : (o : Option ℕ) (r : Received) (parcel : ℕ) → IsHearing parcel true (read_notes o r parcel)
hearing_by None r parcel = hearing_none parcel true
hearing_by (Some who) r parcel = hearing_read r who parcel

hearing_heard : (here : List (ℕ × ℕ)) (o : Option ℕ) (r : Received) (parcel : ℕ) → IsHearing parcel (is_some o) (heard_notes here o r parcel)
hearing_heard here None r parcel = hearing_none parcel false
hearing_heard here (Some id) r parcel = hearing_by (end_at here id) r parcel

pub hearing_arrival : (a : Arrived) (s : HostState) (count parcel : ℕ) → IsHearing parcel (is_read a s.endpoint) (arrival_notes a s count parcel)
hearing_arrival (Arriveds.Bad f) s count parcel = hearing_none parcel false
hearing_arrival Arriveds.NotOurs s count parcel = hearing_none parcel false
hearing_arrival (Arriveds.BadSpx f) s count parcel = hearing_none parcel false
hearing_arrival Arriveds.NoListener s count parcel = hearing_none parcel false
hearing_arrival Arriveds.NoRoom s count parcel = hearing_none parcel false
hearing_arrival Arriveds.Stranger s count parcel = hearing_none parcel false
hearing_arrival (Arriveds.Accepted id) s count parcel = hearing_one parcel (arrival_notes (Arriveds.Accepted id) s count parcel) (record { units_are = refl; gots_are = refl; sends_are = refl })
hearing_arrival (Arriveds.Link id r) s count parcel = hearing_heard s.here s.endpoint.heard r parcel

-- ---- an end of a host sends a packet, or none does

-- a connection is at this host
pub record IsConnectionAt (cs : List Connection) (who host : ℕ) : Type 0 where
  pub connection : Connection
  pub there : slice_get cs who ≡ Some connection
  pub host_is : connection.host ≡ host

-- the packet of an end of this host is made as this parcel
pub record SendsOne (cs : List Connection) (host count : ℕ) (given : Option Given) (said : Option (ℕ × Sent)) (ns : List Note) : Type 0 where
  pub packet : Given
  pub given_is : given ≡ Some packet
  pub id : ℕ
  pub what : Sent
  pub said_is : said ≡ Some (id, what)
  pub who : ℕ
  pub at : IsConnectionAt cs who host
  pub notes : ns ≡ note_of what who count ∷ []

abbrev pub IsGiving : List Connection → ℕ → ℕ → Option Given → Option (ℕ × Sent) → List Note → Type 0
IsGiving cs host count given said ns = ((given ≡ None) × (said ≡ None) × (ns ≡ [])) ⊎ SendsOne cs host count given said ns

-- ---- scenes

-- deeds change one scene into another, and its log grew by such entries
pub record Moves (old new : Scene) (P : List Note → Type 0) : Type 0 where
  pub deeds : Deeds old new
  pub notes : List Note
  pub log : new.log ≡ old.log ++ notes
  pub say : P notes

-- whatever they say
abbrev pub IsAny : List Note → Type 0
IsAny ns = Unit {0}
