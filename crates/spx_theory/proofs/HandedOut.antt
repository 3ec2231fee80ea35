-- Each end hands out what it took, joined.
use Rattle.std.proofs.Common.{◌≡◌, ◌≢◌, ◌⊎◌, ◌≤◌, ◌==◌, ℕ, true, false, cond, List, [], ◌∷◌, ◌++◌, length, set, Some, None, refl, sym, ◌∙◌, ap, subst, arith, inl, inr, length-append, length-set, ne_eqb}
use Rattle.std.specs.Prelude.{slice_get}
use Rattle.std.proofs.lemmas.List.{append-nil}
use Rattle.std.proofs.lemmas.Bool.{cases_eq, cond-true, cond-false}
use Rattle.std.proofs.lemmas.Option.{slice_get_within}
use Rattle.spx_link.specs.declared.unit.Unit.{Unit}
use Rattle.spx_link.specs.Receive.{receive_link}
use Rattle.spx_link.specs.Offer.{take_link}
use Rattle.spx_messages.specs.Joining.{Joining, join_unit, joined}
use Rattle.spx_theory.specs.Note.{Note, Opened, Accepted, Got, HandsIn, AsksEnd, TakesUnit, Released, Told, Carried, Injected}
use Rattle.spx_theory.specs.Handed.{out_by, taken_by, gathered, handed_out, taken_of}
use Rattle.spx_theory.specs.Scene.{Scene, PresentEnd, linked}
use Rattle.spx_theory.specs.Deeds.{Deed, DoesDeed, Dials, Accepts, Reads, OwesReply, Paces, AsksAgain, Gives, Rests, Sends, Takes, Overruns, Closes, Releases, Carries, Tells, Injects, Reached, begun, happened}
use Rattle.spx_theory.specs.PacketsOnWay.{note_of, notes_of, out_notes}
use Rattle.spx_theory.specs.HandedOut.{AbsentHandsOutNothing, HandsOutWhatItTook, HoldsWhatIsLeft}
use Rattle.spx_theory.proofs.Lists.{get_last, get_set}
use Rattle.spx_theory.proofs.Speaking.{eqb_same}
use Rattle.spx_theory.proofs.Gathering.{gathered-append}
use Rattle.spx_theory.proofs.Telling.{AreSilent, linked', given_silent, read_silent, outs_out, outs_taken, join_more, join_one_more}

-- of one end: until it is made it takes nothing, and after that it hands out what it took, as long as no
-- message grew too long
pub record HandsOver (ends : List PresentEnd) (log : List Note) (who : ℕ) : Type 0 where
  pub unmade : length ends ≤ who → (taken_of who log ≡ []) × (handed_out who log ≡ [])
  pub made : (e : PresentEnd) → slice_get ends who ≡ Some e → e.overlong ≡ false → (handed_out who log ≡ (joined (taken_of who log)).messages) × (e.link ≢ None → e.rest ≡ (joined (taken_of who log)).rest)

-- an end had this rest before, or is new
abbrev Continues : List PresentEnd → List PresentEnd → ℕ → Type 0
Continues old new who = (w : PresentEnd) → slice_get new who ≡ Some w → w.overlong ≡ false
    → ((e : PresentEnd) × (slice_get old who ≡ Some e) × (w.link ≢ None → (w.rest ≡ e.rest) × (e.link ≢ None)) × (e.overlong ≡ false)) ⊎ ((length old ≤ who) × (w.rest ≡ None))

same_ends : (ends : List PresentEnd) (who : ℕ) → Continues ends ends who
same_ends ends who w at well = inl (w, at, (λ stands. (refl, stands)), well)

new_end : (ends : List PresentEnd) (e : PresentEnd) (who : ℕ) → e.rest ≡ None → Continues ends (ends ++ e ∷ []) who
new_end ends e who rest w at well =
    elim (get_last ends e w who at) [
      | inl was ↦ inl (w, was, (λ stands. (refl, stands)), well)
      | inr new ↦ inr (omega (arith, new.0), ap (λ (x : PresentEnd). x.rest) (sym new.1) ∙ rest)
    ]

written_end : (ends : List PresentEnd) (j : ℕ) (e x : PresentEnd) (who : ℕ) → slice_get ends j ≡ Some e → e.link ≢ None → (x.overlong ≡ false → ((x.link ≡ None) ⊎ (x.rest ≡ e.rest)) × (e.overlong ≡ false)) → Continues ends (set ends j x) who
written_end ends j e x who there stands keeps w at well =
    elim (get_set ends j who x w at) [
      | inl here ↦
          let kept = keeps (ap (λ (y : PresentEnd). y.overlong) here.1 ∙ well) in
          inl (
            e,
            ap (slice_get ends) (sym here.0) ∙ there,
            (λ stands'. (elim kept.0 [ inl none ↦ absurd (stands' (ap (λ (y : PresentEnd). y.link) (sym here.1) ∙ none)) | inr rest ↦ ap (λ (y : PresentEnd). y.rest) (sym here.1) ∙ rest ], stands)),
            kept.1,
          )
      | inr other ↦ inl (w, other.1, (λ stands'. (refl, stands')), well)
    ]

-- entries by which no end takes a unit or hands out a message
silent : (who : ℕ) (ends ends' : List PresentEnd) (log ns : List Note) → AreSilent ns → length ends ≤ length ends' → Continues ends ends' who → HandsOver ends log who → HandsOver ends' (log ++ ns) who
silent who ends ends' log ns quiet more goes h =
    let taken : taken_of who (log ++ ns) ≡ taken_of who log = gathered-append (taken_by who) log ns ∙ ap (λ us. taken_of who log ++ us) (quiet.taken who) ∙ append-nil (taken_of who log) in
    let out : handed_out who (log ++ ns) ≡ handed_out who log = gathered-append (out_by who) log ns ∙ ap (λ ts. handed_out who log ++ ts) (quiet.out who) ∙ append-nil (handed_out who log) in
    record {
      unmade = λ past. let was = h.unmade (omega (arith, past, more)) in (taken ∙ was.0, out ∙ was.1);
      made = λ w at well. elim (goes w at well) [
        | inl old ↦
            let was = h.made old.0 old.1 old.3 in
            (out ∙ was.0 ∙ ap (λ us. (joined us).messages) (sym taken), (λ stands. let k = old.2 stands in k.0 ∙ was.1 k.1 ∙ ap (λ us. (joined us).rest) (sym taken)))
        | inr new ↦
            let none = h.unmade new.0 in
            (out ∙ none.1 ∙ ap (λ us. (joined us).messages) (sym (taken ∙ none.0)), (λ stands. new.1 ∙ ap (λ us. (joined us).rest) (sym (taken ∙ none.0))))
      ];
    }

unnoted : (who : ℕ) (ends ends' : List PresentEnd) (log : List Note) → length ends ≤ length ends' → Continues ends ends' who → HandsOver ends log who → HandsOver ends' log who
unnoted who ends ends' log more goes h =
    subst (λ l. HandsOver ends' l who) (append-nil log) (silent who ends ends' log [] (record { ok = tt; taken = λ e. refl; out = λ e. refl }) more goes h)

-- the end takes a unit
takes_own : (who : ℕ) (ends : List PresentEnd) (log : List Note) (stand w : PresentEnd) (u : Unit) (joins : Joining) → slice_get ends who ≡ Some stand → stand.link ≢ None → w.rest ≡ joins.rest → w.overlong ≡ stand.overlong
    → joins ≡ join_unit (record { messages = []; rest = stand.rest }) u → HandsOver ends log who → HandsOver (set ends who w) (log ++ (TakesUnit who u ∷ out_notes who joins.messages)) who
takes_own who ends log stand w u joins at stands rest over is h =
    let ns : List Note = TakesUnit who u ∷ out_notes who joins.messages in
    let own : (who == who) ≡ true = eqb_same who in
    let more : gathered (taken_by who) ns ≡ u ∷ [] = ap (λ b. cond b (u ∷ []) [] ++ gathered (taken_by who) (out_notes who joins.messages)) own ∙ ap (λ us. u ∷ us) (outs_taken who who joins.messages) in
    let taken : taken_of who (log ++ ns) ≡ taken_of who log ++ u ∷ [] = gathered-append (taken_by who) log ns ∙ ap (λ us. taken_of who log ++ us) more in
    let out : handed_out who (log ++ ns) ≡ handed_out who log ++ joins.messages =
    gathered-append (out_by who) log ns ∙ ap (λ ts. handed_out who log ++ ts) (outs_out who who joins.messages ∙ cond-true (who == who) joins.messages [] own) in
    let j : Joining = joined (taken_of who log) in
    record {
      unmade = λ past. absurd (omega (arith, past, length-set ends who w, slice_get_within ends who stand at));
      made = λ e there well. elim (get_set ends who who w e there) [
        | inl here ↦
            let was = h.made stand at (sym over ∙ ap (λ (x : PresentEnd). x.overlong) here.1 ∙ well) in
            let joins_is : joins ≡ join_unit (record { messages = []; rest = j.rest }) u = is ∙ ap (λ r. join_unit (record { messages = []; rest = r }) u) (was.1 stands) in
            let now : joined (taken_of who log ++ u ∷ []) ≡ record { messages = j.messages ++ joins.messages; rest = joins.rest } =
            join_one_more (taken_of who log) (record { messages = []; rest = None }) u ∙ join_more j u ∙ ap (λ (k : Joining). record { messages = j.messages ++ k.messages; rest = k.rest }) (sym joins_is) in (
              out ∙ ap (λ ts. ts ++ joins.messages) was.0 ∙ sym (ap (λ us. (joined us).messages) taken ∙ ap (λ (k : Joining). k.messages) now),
              (λ stands'. ap (λ (x : PresentEnd). x.rest) (sym here.1) ∙ rest ∙ sym (ap (λ us. (joined us).rest) taken ∙ ap (λ (k : Joining). k.rest) now)),
            )
        | inr other ↦ absurd (other.0 refl)
      ];
    }

-- another end does
takes_other : (j who : ℕ) (ends : List PresentEnd) (log : List Note) (stand w : PresentEnd) (u : Unit) (joins : Joining) → j ≢ who → slice_get ends j ≡ Some stand
    → HandsOver ends log who → HandsOver (set ends j w) (log ++ (TakesUnit j u ∷ out_notes j joins.messages)) who
takes_other j who ends log stand w u joins differ at h =
    let ns : List Note = TakesUnit j u ∷ out_notes j joins.messages in
    let no : (j == who) ≡ false = ne_eqb j who differ in
    let none : gathered (taken_by who) ns ≡ [] = ap (λ b. cond b (u ∷ []) [] ++ gathered (taken_by who) (out_notes j joins.messages)) no ∙ outs_taken who j joins.messages in
    let none' : gathered (out_by who) ns ≡ [] = outs_out who j joins.messages ∙ cond-false (j == who) joins.messages [] no in
    let taken : taken_of who (log ++ ns) ≡ taken_of who log = gathered-append (taken_by who) log ns ∙ ap (λ us. taken_of who log ++ us) none ∙ append-nil (taken_of who log) in
    let out : handed_out who (log ++ ns) ≡ handed_out who log = gathered-append (out_by who) log ns ∙ ap (λ ts. handed_out who log ++ ts) none' ∙ append-nil (handed_out who log) in
    record {
      unmade = λ past. let was = h.unmade (omega (arith, past, length-set ends j w)) in (taken ∙ was.0, out ∙ was.1);
      made = λ e there well. elim (get_set ends j who w e there) [
        | inl here ↦ absurd (differ here.0)
        | inr same ↦
            let was = h.made e same.1 well in
            (out ∙ was.0 ∙ ap (λ us. (joined us).messages) (sym taken), (λ stands. was.1 stands ∙ ap (λ us. (joined us).rest) (sym taken)))
      ];
    }

-- ---- each deed

abbrev pub HandsOverAt : Scene → Type 0
HandsOverAt s = (who : ℕ) → HandsOver s.ends s.log who

next_handed : (s s' : Scene) (deed : Deed) → DoesDeed deed s s' → HandsOverAt s → HandsOverAt s'
next_handed s s' (Dials host id socket to buffers now) does h =
    subst HandsOverAt (sym does.after)
    (λ who. silent who s.ends (s.ends ++ _ ∷ []) s.log (Opened (length s.ends) host buffers ∷ []) (record { ok = (tt, tt); taken = λ e. refl; out = λ e. refl })
    (omega (arith, length-append {A = PresentEnd})) (new_end s.ends _ who refl) (h who))
next_handed s s' (Accepts host id socket parcel buffers now) does h =
    subst HandsOverAt (sym does.after)
    (λ who. silent who s.ends (s.ends ++ _ ∷ []) s.log (Accepted (length s.ends) parcel buffers ∷ Got (length s.ends) parcel ∷ []) (record { ok = (tt, (tt, tt)); taken = λ e. refl; out = λ e. refl })
    (omega (arith, length-append {A = PresentEnd})) (new_end s.ends _ who refl) (h who))
next_handed s s' (Reads who parcel) does h =
    subst HandsOverAt (sym does.after)
    (λ e. silent e s.ends (set s.ends who _) s.log (notes_of (receive_link does.link does.header does.body).0 who parcel) (read_silent (receive_link does.link does.header does.body).0 who parcel)
    (omega (arith, length-set {A = PresentEnd})) (written_end s.ends who does.stand _ e does.stands.there (linked' does.stand does.link does.stands.link) (λ well. (inr refl, well))) (h e))
next_handed s s' (OwesReply who) does h =
    subst HandsOverAt (sym does.after)
    (λ e. unnoted e s.ends (set s.ends who _) s.log (omega (arith, length-set {A = PresentEnd})) (written_end s.ends who does.stand _ e does.stands.there (linked' does.stand does.link does.stands.link) (λ well. (inr refl, well))) (h e))
next_handed s s' (Paces who window manual) does h =
    subst HandsOverAt (sym does.after)
    (λ e. unnoted e s.ends (set s.ends who _) s.log (omega (arith, length-set {A = PresentEnd})) (written_end s.ends who does.stand _ e does.stands.there (linked' does.stand does.link does.stands.link) (λ well. (inr refl, well))) (h e))
next_handed s s' (AsksAgain who place) does h =
    subst HandsOverAt (sym does.after)
    (λ e. unnoted e s.ends (set s.ends who _) s.log (omega (arith, length-set {A = PresentEnd})) (written_end s.ends who does.stand _ e does.stands.there (linked' does.stand does.link does.stands.link) (λ well. (inr refl, well))) (h e))
next_handed s s' (Gives who now segment bytes) does h =
    subst HandsOverAt (sym does.after)
    (λ e. silent e s.ends (set s.ends who _) s.log (note_of does.given.what who (length s.parcels) ∷ []) (given_silent does.given.what who (length s.parcels))
    (omega (arith, length-set {A = PresentEnd})) (written_end s.ends who does.stand _ e does.stands.there (linked' does.stand does.link does.stands.link) (λ well. (inr refl, well))) (h e))
next_handed s s' (Rests who now) does h =
    subst HandsOverAt (sym does.after)
    (λ e. unnoted e s.ends (set s.ends who _) s.log (omega (arith, length-set {A = PresentEnd})) (written_end s.ends who does.stand _ e does.stands.there (linked' does.stand does.link does.stands.link) (λ well. (inr refl, well))) (h e))
next_handed s s' (Sends who m) does h =
    subst HandsOverAt (sym does.after)
    (λ e. silent e s.ends (set s.ends who _) s.log (HandsIn who m ∷ []) (record { ok = (record { stream = does.stream; short = does.short }, tt); taken = λ f. refl; out = λ f. refl })
    (omega (arith, length-set {A = PresentEnd})) (written_end s.ends who does.stand _ e does.stands.there (linked' does.stand does.link does.stands.link) (λ well. (inr refl, well))) (h e))
next_handed s s' (Takes who u) does h =
    let w : PresentEnd = record (linked does.stand (take_link does.link).1) { rest = does.joins.rest } in
    subst HandsOverAt (sym does.after)
    (λ e. elim (cases_eq who e) [
      | inl here ↦ subst (λ k. HandsOver (set s.ends who w) (s.log ++ (TakesUnit who u ∷ out_notes who does.joins.messages)) k) here
          (takes_own who s.ends s.log does.stand w u does.joins does.stands.there (linked' does.stand does.link does.stands.link) refl refl does.joined (h who))
      | inr other ↦ takes_other who e s.ends s.log does.stand w u does.joins other does.stands.there (h e)
    ])
next_handed s s' (Overruns who u) does h =
    subst HandsOverAt (sym does.after)
    (λ e. unnoted e s.ends (set s.ends who _) s.log (omega (arith, length-set {A = PresentEnd})) (written_end s.ends who does.stand _ e does.stands.there (linked' does.stand does.link does.stands.link) (λ well. absurd (cc well))) (h e))
next_handed s s' (Closes who) does h =
    subst HandsOverAt (sym does.after)
    (λ e. silent e s.ends (set s.ends who _) s.log (AsksEnd who ∷ []) (record { ok = (tt, tt); taken = λ f. refl; out = λ f. refl })
    (omega (arith, length-set {A = PresentEnd})) (written_end s.ends who does.stand _ e does.stands.there (linked' does.stand does.link does.stands.link) (λ well. (inr refl, well))) (h e))
next_handed s s' (Releases who) does h =
    subst HandsOverAt (sym does.after)
    (λ e. silent e s.ends (set s.ends who _) s.log (Released who ∷ []) (record { ok = (tt, tt); taken = λ f. refl; out = λ f. refl })
    (omega (arith, length-set {A = PresentEnd})) (written_end s.ends who does.stand _ e does.stands.there (linked' does.stand does.link does.stands.link) (λ well. (inl refl, well))) (h e))
next_handed s s' (Carries from network segment bytes) does h =
    subst HandsOverAt (sym does.after)
    (λ e. silent e s.ends s.ends s.log (Carried from (length s.parcels) ∷ []) (record { ok = (tt, tt); taken = λ f. refl; out = λ f. refl }) (omega arith) (same_ends s.ends e) (h e))
next_handed s s' (Tells router segment bytes) does h =
    subst HandsOverAt (sym does.after)
    (λ e. silent e s.ends s.ends s.log (Told router (length s.parcels) ∷ []) (record { ok = (tt, tt); taken = λ f. refl; out = λ f. refl }) (omega arith) (same_ends s.ends e) (h e))
next_handed s s' (Injects segment bytes) does h =
    subst HandsOverAt (sym does)
    (λ e. silent e s.ends s.ends s.log (Injected (length s.parcels) ∷ []) (record { ok = (tt, tt); taken = λ f. refl; out = λ f. refl }) (omega arith) (same_ends s.ends e) (h e))

pub hands_over : {s : Scene} → Reached s → HandsOverAt s
hands_over {s} (begun is) =
    subst (λ es. (who : ℕ) → HandsOver es s.log who) (sym is.ends)
    (subst (λ l. (who : ℕ) → HandsOver [] l who) (sym is.log) (λ who. record { unmade = λ past. (refl, refl); made = λ e at well. absurd (cc at) }))
hands_over {s} (happened old deed reached does) = next_handed old s deed does (hands_over reached)

pub hands_out_what_it_took : (s : Scene) → Reached s → HandsOutWhatItTook s
hands_out_what_it_took s reached who e at well = (((hands_over reached) who).made e at well).0

pub holds_what_is_left : (s : Scene) → Reached s → HoldsWhatIsLeft s
holds_what_is_left s reached who e at well = (((hands_over reached) who).made e at well).1

pub absent_hands_out_nothing : (s : Scene) → Reached s → AbsentHandsOutNothing s
absent_hands_out_nothing s reached who past = ((hands_over reached) who).unmade past
