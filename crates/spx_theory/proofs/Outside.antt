-- If nothing was injected, the index of a log has no parcel from outside.
use Rattle.std.proofs.Common.{◌≡◌, ◌≢◌, ◌<◌, ℕ, zero, arith, List, [], ◌∷◌, ◌++◌, length, Some, refl, sym, ◌∙◌, ap, subst, inl, inr, append_assoc}
use Rattle.std.specs.Prelude.{Contains, slice_get}
use Rattle.std.proofs.lemmas.List.Elements.{Contains-append_left, Contains-append_right}
use Rattle.std.proofs.lemmas.Option.{slice_get-get_or}
use Rattle.spx_theory.specs.Note.{Note, Opened, Accepted, Joined, HandsIn, HandsOut, TakesUnit, AsksEnd, Got, Released, SendsUnit, SendsAgain, SendsSystem, Told, Carried, Injected}
use Rattle.spx_theory.specs.Numbered.{IsNumbered, NumbersAreInOrder}
use Rattle.spx_theory.specs.Outside.{OutsideWasInjected}
use Rattle.spx_theory.specs.Scan.{Mark, Reading, Scan, FromOutside, mark_of, nowhere, scan, seen, seen_all, unread}
use Rattle.spx_theory.specs.Scene.{Scene}
use Rattle.spx_theory.proofs.Folding.{seen_all-append}
use Rattle.spx_theory.proofs.Lists.{get_last}

-- no parcel is from outside, and none that was read is
pub record IsInside (s : Scan) : Type 0 where
  pub marks : (k : ℕ) (m : Mark) → slice_get s.marks k ≡ Some m → m.maker ≢ FromOutside
  pub readings : (k : ℕ) (r : Reading) → slice_get s.readings k ≡ Some r → r.maker ≢ FromOutside

inside_at : (s : Scan) → IsInside s → (parcel : ℕ) → parcel < length s.marks → (mark_of s parcel).maker ≢ FromOutside
inside_at s i parcel within = i.marks parcel (mark_of s parcel) (slice_get-get_or s.marks parcel nowhere within)

-- a mark, or a reading, is added
marks_more : (marks : List Mark) (m : Mark) → ((k : ℕ) (x : Mark) → slice_get marks k ≡ Some x → x.maker ≢ FromOutside) → m.maker ≢ FromOutside
    → (k : ℕ) (x : Mark) → slice_get (marks ++ m ∷ []) k ≡ Some x → x.maker ≢ FromOutside
marks_more marks m was new k x at = elim (get_last marks m x k at) [ inl before ↦ was k x before | inr last ↦ subst (λ (z : Mark). z.maker ≢ FromOutside) last.1 new ]

readings_more : (rs : List Reading) (r : Reading) → ((k : ℕ) (x : Reading) → slice_get rs k ≡ Some x → x.maker ≢ FromOutside) → r.maker ≢ FromOutside
    → (k : ℕ) (x : Reading) → slice_get (rs ++ r ∷ []) k ≡ Some x → x.maker ≢ FromOutside
readings_more rs r was new k x at = elim (get_last rs r x k at) [ inl before ↦ was k x before | inr last ↦ subst (λ (z : Reading). z.maker ≢ FromOutside) last.1 new ]

seen_inside : (s : Scan) (n : Note) → IsInside s → IsNumbered s n → ((parcel : ℕ) → n ≢ Injected parcel) → IsInside (seen s n)
seen_inside s (Opened who host buffers) i is none = record { marks = i.marks; readings = i.readings }
seen_inside s (Accepted who parcel buffers) i is none = record { marks = i.marks; readings = i.readings }
seen_inside s (Joined who parcel) i is none = record { marks = i.marks; readings = i.readings }
seen_inside s (HandsIn who m) i is none = record { marks = i.marks; readings = i.readings }
seen_inside s (HandsOut who m) i is none = record { marks = i.marks; readings = i.readings }
seen_inside s (TakesUnit who u) i is none = record { marks = i.marks; readings = i.readings }
seen_inside s (AsksEnd who) i is none = record { marks = i.marks; readings = i.readings }
seen_inside s (Got who parcel) i is none = record { marks = i.marks; readings = readings_more s.readings _ i.readings (inside_at s i parcel is.1) }
seen_inside s (Released who) i is none = record { marks = i.marks; readings = i.readings }
seen_inside s (SendsUnit who parcel) i is none = record { marks = marks_more s.marks _ i.marks (λ e. cc); readings = i.readings }
seen_inside s (SendsAgain who parcel) i is none = record { marks = marks_more s.marks _ i.marks (λ e. cc); readings = i.readings }
seen_inside s (SendsSystem who parcel) i is none = record { marks = marks_more s.marks _ i.marks (λ e. cc); readings = i.readings }
seen_inside s (Told router parcel) i is none = record { marks = marks_more s.marks _ i.marks (λ e. cc); readings = i.readings }
seen_inside s (Carried from parcel) i is none = record { marks = marks_more s.marks _ i.marks (inside_at s i from is.0); readings = i.readings }
seen_inside s (Injected parcel) i is none = absurd (none parcel refl)

-- entries one after another
all_inside : (before ns : List Note) (s : Scan) → s ≡ scan before → IsInside s → ((early late : List Note) (n : Note) → before ++ ns ≡ early ++ n ∷ late → IsNumbered (scan early) n)
    → ((parcel : ℕ) → ¬ Contains (before ++ ns) (Injected parcel)) → IsInside (seen_all s ns)
all_inside before [] s is i numbered none = i
all_inside before (n ∷ ns) s is i numbered none =
    let same : (before ++ n ∷ []) ++ ns ≡ before ++ n ∷ ns = append_assoc before (n ∷ []) ns in
    let own : IsNumbered s n = subst (λ z. IsNumbered z n) (sym is) (numbered before ns n refl) in
    let not : (parcel : ℕ) → n ≢ Injected parcel = λ parcel e. none parcel (Contains-append_right before (n ∷ ns) (Injected parcel) (Contains-append_left (n ∷ []) ns (Injected parcel) (zero, omega arith, e))) in
    all_inside (before ++ n ∷ []) ns (seen s n) (ap (λ z. seen z n) is ∙ sym (seen_all-append unread before (n ∷ []))) (seen_inside s n i own not)
    (λ early late m e. numbered early late m (sym same ∙ e)) (λ parcel has. none parcel (subst (λ xs. Contains xs (Injected parcel)) same has))

pub outside_was_injected : (s : Scene) → NumbersAreInOrder s → OutsideWasInjected s
outside_was_injected s numbers none k r at =
    (all_inside [] s.log unread refl (record { marks = λ k m at. absurd (no_mark k m at); readings = λ k r at. absurd (no_reading k r at) }) numbers.entries none).readings k r at
  where
    no_mark : (k : ℕ) (m : Mark) → slice_get [] k ≡ Some m → ⊥
    no_mark k m at = cc

    no_reading : (k : ℕ) (r : Reading) → slice_get [] k ≡ Some r → ⊥
    no_reading k r at = cc
