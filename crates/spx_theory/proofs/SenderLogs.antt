-- How entries change the units of an end and the number of those sent, and that what was said of earlier
-- parcels still holds.
use Rattle.std.proofs.Common.{◌≡◌, ◌⊎◌, ◌<◌, ◌||◌, ℕ, Bool, true, false, List, [], ◌∷◌, ◌++◌, Some, refl, sym, ◌∙◌, inl, inr, ap, subst}
use Rattle.std.specs.Prelude.{slice_get, slice_index_or}
use Rattle.std.proofs.lemmas.List.{append-nil}
use Rattle.spx_link.specs.declared.unit.Unit.{Unit}
use Rattle.spx_link.specs.declared.received.Received.{Received}
use Rattle.spx_messages.specs.Message.{MessageView}
use Rattle.ipx_wire.specs.Connection.{sequence_in}
use Rattle.spx_theory.specs.Note.{Note, Opened, Accepted, Joined, HandsIn, HandsOut, TakesUnit, AsksEnd, Got, Released, SendsUnit, SendsAgain, SendsSystem, Told, Carried, Injected}
use Rattle.spx_theory.specs.Scan.{Scan, times, seen, seen_all, scan, unread}
use Rattle.spx_theory.specs.Handed.{units_by, units_of}
use Rattle.spx_theory.specs.PairLog.{position_of}
use Rattle.spx_theory.specs.Scene.{Scene}
use Rattle.spx_theory.specs.PacketsOnWay.{notes_of, out_notes}
use Rattle.spx_theory.specs.SentUnits.{sent_by, CarriesUnit, UnitsAreSentInOrder}
use Rattle.spx_theory.proofs.Lists.{get_before, read_there}
use Rattle.spx_theory.proofs.Folding.{seen_all-append}
use Rattle.spx_theory.proofs.Gathering.{gathered-append}
use Rattle.spx_link.specs.declared.received.Received.TheVariants as R

-- ---- entries of units

abbrev pub is_sending : Note → Bool
is_sending (SendsUnit who parcel) = true
is_sending (SendsAgain who parcel) = true
is_sending (Opened who host buffers) = false
is_sending (Accepted who parcel buffers) = false
is_sending (Joined who parcel) = false
is_sending (HandsIn who m) = false
is_sending (HandsOut who m) = false
is_sending (TakesUnit who u) = false
is_sending (AsksEnd who) = false
is_sending (Got who parcel) = false
is_sending (Released who) = false
is_sending (SendsSystem who parcel) = false
is_sending (Told router parcel) = false
is_sending (Carried from parcel) = false
is_sending (Injected parcel) = false

abbrev pub any_sending : List Note → Bool
any_sending [] = false
any_sending (n ∷ ns) = is_sending n || any_sending ns

or_left : (a b : Bool) → (a || b) ≡ false → a ≡ false
or_left true b e = e
or_left false b e = refl

or_right : (a b : Bool) → (a || b) ≡ false → b ≡ false
or_right true b e = absurd (cc e)
or_right false b e = e

pub none_sends : (b a : List Note) (m : Note) → any_sending (b ++ m ∷ a) ≡ false → is_sending m ≡ false
none_sends [] a m none = or_left (is_sending m) (any_sending a) none
none_sends (n ∷ b) a m none = none_sends b a m (or_right (is_sending n) (any_sending (b ++ m ∷ a)) none)

one_unsent : (s : Scan) (n : Note) → is_sending n ≡ false → (seen s n).sent ≡ s.sent
one_unsent s (SendsUnit who parcel) none = absurd (cc none)
one_unsent s (SendsAgain who parcel) none = refl
one_unsent s (Opened who host buffers) none = refl
one_unsent s (Accepted who parcel buffers) none = refl
one_unsent s (Joined who parcel) none = refl
one_unsent s (HandsIn who m) none = refl
one_unsent s (HandsOut who m) none = refl
one_unsent s (TakesUnit who u) none = refl
one_unsent s (AsksEnd who) none = refl
one_unsent s (Got who parcel) none = refl
one_unsent s (Released who) none = refl
one_unsent s (SendsSystem who parcel) none = refl
one_unsent s (Told router parcel) none = refl
one_unsent s (Carried from parcel) none = refl
one_unsent s (Injected parcel) none = refl

all_unsent : (s : Scan) (ns : List Note) → any_sending ns ≡ false → (seen_all s ns).sent ≡ s.sent
all_unsent s [] none = refl
all_unsent s (n ∷ ns) none = all_unsent (seen s n) ns (or_right (is_sending n) (any_sending ns) none) ∙ one_unsent s n (or_left (is_sending n) (any_sending ns) none)

-- if no entry is of a unit, an end sent no more units
pub sent_same : (who : ℕ) (log ns : List Note) → any_sending ns ≡ false → sent_by who (log ++ ns) ≡ sent_by who log
sent_same who log ns none = ap (λ (t : Scan). times who t.sent) (seen_all-append unread log ns) ∙ ap (times who) (all_unsent (scan log) ns none)

pub outs_unsent : (who : ℕ) (ms : List MessageView) → any_sending (out_notes who ms) ≡ false
outs_unsent who [] = refl
outs_unsent who (m ∷ ms) = outs_unsent who ms

pub reads_unsent : (r : Received) (who k : ℕ) → any_sending (notes_of r who k) ≡ false
reads_unsent R.Joined who k = refl
reads_unsent R.Kept who k = refl
reads_unsent R.Repeat who k = refl
reads_unsent R.Ahead who k = refl
reads_unsent R.OverAllocation who k = refl
reads_unsent R.System who k = refl
reads_unsent R.PeerEnded who k = refl
reads_unsent R.Confirmed who k = refl
reads_unsent R.Stranger who k = refl

pub reads_units : (j : ℕ) (r : Received) (who k : ℕ) → units_of j (notes_of r who k) ≡ []
reads_units j R.Joined who k = refl
reads_units j R.Kept who k = refl
reads_units j R.Repeat who k = refl
reads_units j R.Ahead who k = refl
reads_units j R.OverAllocation who k = refl
reads_units j R.System who k = refl
reads_units j R.PeerEnded who k = refl
reads_units j R.Confirmed who k = refl
reads_units j R.Stranger who k = refl

pub units_more : (who : ℕ) (log ns : List Note) → units_of who (log ++ ns) ≡ units_of who log ++ units_of who ns
units_more who log ns = gathered-append (units_by who) log ns

pub units_same : (who : ℕ) (log ns : List Note) → units_of who ns ≡ [] → units_of who (log ++ ns) ≡ units_of who log
units_same who log ns none = units_more who log ns ∙ ap (λ us. units_of who log ++ us) none ∙ append-nil (units_of who log)

-- ---- the index of an entry

pub record InFront (xs ys before after : List Note) (n : Note) : Type 0 where
  pub rest : List Note
  pub is : xs ≡ before ++ n ∷ rest

pub record Behind (xs ys before after : List Note) (n : Note) : Type 0 where
  pub start : List Note
  pub upto : before ≡ xs ++ start
  pub is : ys ≡ start ++ n ∷ after

-- an entry of a log that grew is one that was there, or a new one
pub parted : (xs ys before after : List Note) (n : Note) → xs ++ ys ≡ before ++ n ∷ after → InFront xs ys before after n ⊎ Behind xs ys before after n
parted [] ys before after n e = inr (record { start = before; upto = refl; is = e })
parted (x ∷ xs) ys [] after n e = let same : x ≡ n = cc e in inl (record { rest = xs; is = ap (λ m. m ∷ xs) same })
parted (x ∷ xs) ys (b ∷ before) after n e =
    let same : x ≡ b = cc e in
    let tails : xs ++ ys ≡ before ++ n ∷ after = cc e in
    elim (parted xs ys before after n tails) [
      | inl f ↦ inl (record { rest = f.rest; is = ap (λ m. m ∷ xs) same ∙ ap (λ ms. b ∷ ms) f.is })
      | inr f ↦ inr (record { start = f.start; upto = ap (λ ms. b ∷ ms) f.upto ∙ ap (λ m. m ∷ (xs ++ f.start)) (sym same); is = f.is })
    ]

-- the only entry
pub only_note : (n m : Note) (before after : List Note) → n ∷ [] ≡ before ++ m ∷ after → (before ≡ []) × (n ≡ m)
only_note n m [] after e = (refl, cc e)
only_note n m (b ∷ []) after e = let tails : [] ≡ m ∷ after = cc e in absurd (cc tails)
only_note n m (b ∷ c ∷ before) after e = let tails : [] ≡ c ∷ (before ++ m ∷ after) = cc e in absurd (cc tails)

-- ---- what was said still holds

pub carries_later : (s s' : Scene) (ns : List Note) (more : List (List ℕ)) (who n parcel : ℕ) → s'.log ≡ s.log ++ ns → s'.parcels ≡ s.parcels ++ more
    → CarriesUnit s who n parcel → CarriesUnit s' who n parcel
carries_later s s' ns more who n parcel log parcels (u, bytes, at, there, is) = (
  u,
  bytes,
  ap (λ (xs : List Note). slice_get (units_of who xs) n) log ∙ ap (λ (us : List Unit). slice_get us n) (units_more who s.log ns) ∙ get_before (units_of who s.log) (units_of who ns) u n at,
  ap (λ (ps : List (List ℕ)). slice_get ps parcel) parcels ∙ get_before s.parcels more bytes parcel there,
  is,
)

-- of a unit that was sent again, with the number of those that were sent before it
abbrev pub CarriesAgain : Scene → ℕ → ℕ → ℕ → Type 0
CarriesAgain s who sent parcel =
    let n : ℕ = position_of sent (sequence_in (slice_index_or s.parcels parcel [])) in (n < sent) × CarriesUnit s who n parcel

-- of the new entries
pub record News (s' : Scene) (log ns : List Note) : Type 0 where
  pub first : (b a : List Note) (who parcel : ℕ) → ns ≡ b ++ SendsUnit who parcel ∷ a → CarriesUnit s' who (sent_by who (log ++ b)) parcel
  pub again : (b a : List Note) (who parcel : ℕ) → ns ≡ b ++ SendsAgain who parcel ∷ a
      → CarriesAgain s' who (sent_by who (log ++ b)) parcel

pub no_news : (s' : Scene) (log ns : List Note) → any_sending ns ≡ false → News s' log ns
no_news s' log ns none =
    record {
      first = λ b a who parcel is. absurd (cc (sym (none_sends b a (SendsUnit who parcel) (ap any_sending (sym is) ∙ none))));
      again = λ b a who parcel is. absurd (cc (sym (none_sends b a (SendsAgain who parcel) (ap any_sending (sym is) ∙ none))));
    }

again_later : (s s' : Scene) (ns : List Note) (more : List (List ℕ)) (who parcel sent : ℕ) → s'.log ≡ s.log ++ ns → s'.parcels ≡ s.parcels ++ more
    → CarriesAgain s who sent parcel → CarriesAgain s' who sent parcel
again_later s s' ns more who parcel sent log parcels (below, (u, bytes, at, there, is)) =
    let there' : slice_get s'.parcels parcel ≡ Some bytes = ap (λ (ps : List (List ℕ)). slice_get ps parcel) parcels ∙ get_before s.parcels more bytes parcel there in
    let same : slice_index_or s.parcels parcel [] ≡ slice_index_or s'.parcels parcel [] = read_there s.parcels parcel bytes [] there ∙ sym (read_there s'.parcels parcel bytes [] there') in
    subst (λ bs. (position_of sent (sequence_in bs) < sent) × CarriesUnit s' who (position_of sent (sequence_in bs)) parcel) same
    (below, carries_later s s' ns more who (position_of sent (sequence_in (slice_index_or s.parcels parcel []))) parcel log parcels (u, bytes, at, there, is))

pub told_later : (s s' : Scene) (ns : List Note) (more : List (List ℕ)) → s'.log ≡ s.log ++ ns → s'.parcels ≡ s.parcels ++ more → News s' s.log ns
    → UnitsAreSentInOrder s → UnitsAreSentInOrder s'
told_later s s' ns more log parcels news told =
    record {
      first = λ before after who parcel is.
          elim (parted s.log ns before after (SendsUnit who parcel) (sym log ∙ is)) [
            | inl f ↦ carries_later s s' ns more who (sent_by who before) parcel log parcels (told.first before f.rest who parcel f.is)
            | inr f ↦ subst (λ xs. CarriesUnit s' who (sent_by who xs) parcel) (sym f.upto) (news.first f.start after who parcel f.is)
          ];
      again = λ before after who parcel is.
          elim (parted s.log ns before after (SendsAgain who parcel) (sym log ∙ is)) [
            | inl f ↦
                again_later s s' ns more who parcel (sent_by who before) log parcels (told.again before f.rest who parcel f.is)
            | inr f ↦
                subst (λ xs. CarriesAgain s' who (sent_by who xs) parcel) (sym f.upto)
                (news.again f.start after who parcel f.is)
          ];
    }
