-- In every scene that can be reached, the units of an end are its messages, split, followed by its end if
-- that was asked for.
use Rattle.std.proofs.Common.{ℕ, ◌≡◌, ◌==◌, ◌⊎◌, ◌++◌, Bool, true, false, cond, List, [], ◌∷◌, length, Some, None, refl, sym, ap, ◌∙◌, subst, inl, inr, append_assoc, eqb-true}
use Rattle.std.specs.Prelude.{slice_get}
use Rattle.std.specs.List.{flat_map}
use Rattle.std.proofs.lemmas.List.{append-nil}
use Rattle.std.proofs.lemmas.Grind.{flat_map-append}
use Rattle.std.proofs.lemmas.List.Concat.{flat_map-cons}
use Rattle.spx_link.specs.declared.unit.Unit.{Unit}
use Rattle.spx_link.specs.declared.outgoing.Sent.{Sent}
use Rattle.spx_link.specs.declared.received.Received.{Received}
use Rattle.spx_link.specs.declared.state.State.{State}
use Rattle.spx_link.specs.LinkView.{LinkView}
use Rattle.spx_link.specs.Offer.{refusal, the_end}
use Rattle.spx_link.specs.Receive.{receive_link}
use Rattle.spx_messages.specs.Message.{MessageView}
use Rattle.spx_messages.specs.Cut.{cut_of}
use Rattle.spx_theory.specs.Tracks.{Formed, may_end}
use Rattle.spx_theory.specs.Below.{LawsBelow}
use Rattle.spx_theory.specs.Note.{Note, HandsIn, AsksEnd, TakesUnit}
use Rattle.spx_theory.specs.Handed.{in_by, units_by, handed_in, units_of}
use Rattle.spx_theory.specs.UnitsOfEnds.{end_by, ends_asked, AreCuts, UnitsAreCuts}
use Rattle.spx_theory.specs.Scene.{Scene, PresentEnd, IsPresent}
use Rattle.spx_theory.specs.PacketsOnWay.{note_of, notes_of, out_notes}
use Rattle.spx_theory.specs.Deeds.{Deed, DoesDeed, Dials, Accepts, Reads, OwesReply, Paces, AsksAgain, Gives, Rests, Sends, Takes, Overruns, Closes, Releases, Carries, Tells, Injects, Reached, begun, happened}
use Rattle.spx_theory.proofs.Fields.{log_of}
use Rattle.spx_theory.proofs.Lists.{get_here}
use Rattle.spx_theory.proofs.Gathering.{gathered-append}
use Rattle.spx_theory.proofs.SenderScenes.{Senders, senders_along}
use Rattle.spx_link.specs.declared.outgoing.Sent.TheVariants as Sents
use Rattle.spx_link.specs.declared.received.Received.TheVariants as R
use Rattle.spx_link.specs.declared.state.State.TheVariants as S

-- ---- entries by which an end gets no new unit
pub record IsIdle (e : ℕ) (ns : List Note) : Type 0 where
  pub units : units_of e ns ≡ []
  pub messages : handed_in e ns ≡ []
  pub ends : ends_asked e ns ≡ []

idle : (e : ℕ) (ns : List Note) → units_of e ns ≡ [] → handed_in e ns ≡ [] → ends_asked e ns ≡ [] → IsIdle e ns
idle e ns units messages ends = record { units = units; messages = messages; ends = ends }

read_idle : (r : Received) (who k e : ℕ) → IsIdle e (notes_of r who k)
read_idle R.Joined who k e = idle e _ refl refl refl
read_idle R.Kept who k e = idle e _ refl refl refl
read_idle R.Repeat who k e = idle e _ refl refl refl
read_idle R.Ahead who k e = idle e _ refl refl refl
read_idle R.OverAllocation who k e = idle e _ refl refl refl
read_idle R.System who k e = idle e _ refl refl refl
read_idle R.PeerEnded who k e = idle e _ refl refl refl
read_idle R.Confirmed who k e = idle e _ refl refl refl
read_idle R.Stranger who k e = idle e _ refl refl refl

given_idle : (what : Sent) (who k e : ℕ) → IsIdle e (note_of what who k ∷ [])
given_idle Sents.Request who k e = idle e _ refl refl refl
given_idle Sents.Reply who k e = idle e _ refl refl refl
given_idle Sents.Confirm who k e = idle e _ refl refl refl
given_idle Sents.Unit who k e = idle e _ refl refl refl
given_idle Sents.Again who k e = idle e _ refl refl refl
given_idle Sents.Ack who k e = idle e _ refl refl refl
given_idle Sents.Probe who k e = idle e _ refl refl refl

outs_idle : (who : ℕ) (ms : List MessageView) (e : ℕ) → IsIdle e (out_notes who ms)
outs_idle who [] e = idle e _ refl refl refl
outs_idle who (m ∷ ms) e = let rest = outs_idle who ms e in idle e _ rest.units rest.messages rest.ends

-- ---- lists
flat-append : (xs ys : List MessageView) → flat_map cut_of (xs ++ ys) ≡ flat_map cut_of xs ++ flat_map cut_of ys
flat-append xs ys = flat_map-append cut_of xs ys

flat-one : (m : MessageView) → flat_map cut_of (m ∷ []) ≡ cut_of m ++ []
flat-one m = flat_map-cons cut_of m []

add_message : (b : Bool) (us end : List Unit) (hs : List MessageView) (m : MessageView) → us ≡ flat_map cut_of hs ++ end → (b ≡ true → end ≡ [])
    → us ++ (cond b (cut_of m) [] ++ []) ≡ flat_map cut_of (hs ++ (cond b (m ∷ []) [] ++ [])) ++ (end ++ [])
add_message true us end hs m is none =
    let no : end ≡ [] = none refl in
    let front : us ≡ flat_map cut_of hs = is ∙ (ap (λ xs. flat_map cut_of hs ++ xs) no ∙ append-nil (flat_map cut_of hs)) in
    ap (λ xs. xs ++ (cut_of m ++ [])) front
    ∙ (ap (λ xs. flat_map cut_of hs ++ xs) (sym (flat-one m)) ∙ sym (flat-append hs (m ∷ [])) ∙ (sym (append-nil (flat_map cut_of (hs ++ m ∷ []))) ∙ ap (λ xs. flat_map cut_of (hs ++ m ∷ []) ++ (xs ++ [])) (sym no)))
add_message false us end hs m is none =
    append-nil us ∙ (is ∙ (ap (λ xs. flat_map cut_of xs ++ end) (sym (append-nil hs)) ∙ ap (λ xs. flat_map cut_of (hs ++ []) ++ xs) (sym (append-nil end))))

add_ends : (us end more : List Unit) (hs : List MessageView) → us ≡ flat_map cut_of hs ++ end → us ++ more ≡ flat_map cut_of (hs ++ []) ++ (end ++ more)
add_ends us end more hs is =
    ap (λ xs. xs ++ more) is ∙ (append_assoc (flat_map cut_of hs) end more ∙ ap (λ xs. flat_map cut_of xs ++ (end ++ more)) (sym (append-nil hs)))

once_more : (b : Bool) (end : List Unit) → (end ≡ []) ⊎ (end ≡ the_end ∷ []) → (b ≡ true → end ≡ [])
    → (end ++ (cond b (the_end ∷ []) [] ++ []) ≡ []) ⊎ (end ++ (cond b (the_end ∷ []) [] ++ []) ≡ the_end ∷ [])
once_more true end once none = inr (ap (λ xs. xs ++ (the_end ∷ [])) (none refl))
once_more false end (inl empty) none = inl (append-nil end ∙ empty)
once_more false end (inr single) none = inr (append-nil end ∙ single)

-- ---- the log grows
module _ (e : ℕ) (log : List Note) (c : AreCuts e log) where
  stay_cuts : (ns : List Note) → IsIdle e ns → AreCuts e (log ++ ns)
  stay_cuts ns i =
      let asked : ends_asked e (log ++ ns) ≡ ends_asked e log =
      gathered-append (end_by e) log ns ∙ (ap (λ us. ends_asked e log ++ us) i.ends ∙ append-nil (ends_asked e log)) in
      record {
        units = gathered-append (units_by e) log ns ∙ (ap (λ us. units_of e log ++ us) i.units ∙ (append-nil (units_of e log)
            ∙ (c.units ∙ (ap (λ us. flat_map cut_of (handed_in e log) ++ us) (sym asked)
            ∙ ap (λ ms. flat_map cut_of ms ++ ends_asked e (log ++ ns)) (sym (gathered-append (in_by e) log ns ∙ (ap (λ ms. handed_in e log ++ ms) i.messages ∙ append-nil (handed_in e log))))))));
        once = subst (λ us. (us ≡ []) ⊎ (us ≡ the_end ∷ [])) (sym asked) c.once;
      }

  message_cuts : (who : ℕ) (m : MessageView) → ((who == e) ≡ true → ends_asked e log ≡ []) → AreCuts e (log ++ HandsIn who m ∷ [])
  message_cuts who m none =
      let ns : List Note = HandsIn who m ∷ [] in
      let asked : ends_asked e (log ++ ns) ≡ ends_asked e log ++ [] = gathered-append (end_by e) log ns in
      record {
        units = gathered-append (units_by e) log ns ∙ (add_message (who == e) (units_of e log) (ends_asked e log) (handed_in e log) m c.units none
            ∙ (ap (λ us. flat_map cut_of (handed_in e log ++ handed_in e ns) ++ us) (sym asked) ∙ ap (λ ms. flat_map cut_of ms ++ ends_asked e (log ++ ns)) (sym (gathered-append (in_by e) log ns))));
        once = subst (λ us. (us ≡ []) ⊎ (us ≡ the_end ∷ [])) (sym (asked ∙ append-nil (ends_asked e log))) c.once;
      }

  end_cuts : (who : ℕ) → ((who == e) ≡ true → ends_asked e log ≡ []) → AreCuts e (log ++ AsksEnd who ∷ [])
  end_cuts who none =
      let ns : List Note = AsksEnd who ∷ [] in
      let asked : ends_asked e (log ++ ns) ≡ ends_asked e log ++ ends_asked e ns = gathered-append (end_by e) log ns in
      record {
        units = gathered-append (units_by e) log ns ∙ (add_ends (units_of e log) (ends_asked e log) (ends_asked e ns) (handed_in e log) c.units
            ∙ (ap (λ us. flat_map cut_of (handed_in e log ++ []) ++ us) (sym asked) ∙ ap (λ ms. flat_map cut_of ms ++ ends_asked e (log ++ ns)) (sym (gathered-append (in_by e) log ns))));
        once = subst (λ us. (us ≡ []) ⊎ (us ≡ the_end ∷ [])) (sym asked) (once_more (who == e) (ends_asked e log) c.once none);
      }

-- ---- a link that accepts more units has not ended
live_ends : (s : State) → refusal s ≡ None → may_end s ≡ true
live_ends S.Opening is = absurd (cc is)
live_ends S.Live is = refl
live_ends S.Ending is = absurd (cc is)
live_ends S.PeerEnded is = absurd (cc is)
live_ends S.Confirmed is = absurd (cc is)
live_ends S.Lost is = absurd (cc is)

not_asked : (s : Scene) (f : Senders s) (who : ℕ) (w : PresentEnd) (l : LinkView) → IsPresent s who w l → refusal l.state ≡ None → AreCuts who s.log → ends_asked who s.log ≡ []
not_asked s f who w l stands live c =
    let q = f.links who w l stands.there stands.link in
    let shut : Formed (units_of who s.log) false = subst (Formed (units_of who s.log)) (q.open' (live_ends l.state live)) q.formed in
    elim c.once [
      | inl none ↦ none
      | inr one ↦
          let cuts : List Unit = flat_map cut_of (handed_in who s.log) in
          let last : slice_get (units_of who s.log) (length cuts) ≡ Some the_end =
          ap (λ us. slice_get us (length cuts)) (c.units ∙ ap (λ us. cuts ++ us) one) ∙ get_here cuts the_end in
          absurd (cc (shut.end (length cuts) the_end last refl).0)
    ]

not_asked_of : (s : Scene) (f : Senders s) (who e : ℕ) (w : PresentEnd) (l : LinkView) → IsPresent s who w l → refusal l.state ≡ None → AreCuts e s.log → (who == e) ≡ true → ends_asked e s.log ≡ []
not_asked_of s f who e w l stands live c is =
    let same : who ≡ e = eqb-true who e is in
    not_asked s f e w l (record { there = subst (λ k. slice_get s.ends k ≡ Some w) same stands.there; link = stands.link }) live c

-- ---- deeds
same_log : (s s' : Scene) → s'.log ≡ s.log → UnitsAreCuts s → UnitsAreCuts s'
same_log s s' is c e = subst (AreCuts e) (sym is) (c e)

more_log : (s s' : Scene) (ns : List Note) → s'.log ≡ s.log ++ ns → ((e : ℕ) → IsIdle e ns) → UnitsAreCuts s → UnitsAreCuts s'
more_log s s' ns is none c e = subst (AreCuts e) (sym is) (stay_cuts e s.log (c e) ns (none e))

next_cuts : (s s' : Scene) (deed : Deed) → DoesDeed deed s s' → Senders s → UnitsAreCuts s → UnitsAreCuts s'
next_cuts s s' (Dials host id socket to buffers now) does f c = more_log s s' _ (ap log_of does.after) (λ e. idle e _ refl refl refl) c
next_cuts s s' (Accepts host id socket parcel buffers now) does f c = more_log s s' _ (ap log_of does.after) (λ e. idle e _ refl refl refl) c
next_cuts s s' (Reads who parcel) does f c =
    more_log s s' _ (ap log_of does.after) (read_idle (receive_link does.link does.header does.body).0 who parcel) c
next_cuts s s' (OwesReply who) does f c = same_log s s' (ap log_of does.after) c
next_cuts s s' (Paces who window manual) does f c = same_log s s' (ap log_of does.after) c
next_cuts s s' (AsksAgain who place) does f c = same_log s s' (ap log_of does.after) c
next_cuts s s' (Gives who now segment bytes) does f c = more_log s s' _ (ap log_of does.after) (given_idle does.given.what who (length s.parcels)) c
next_cuts s s' (Rests who now) does f c = same_log s s' (ap log_of does.after) c
next_cuts s s' (Sends who m) does f c =
    λ e. subst (AreCuts e) (sym (ap log_of does.after)) (message_cuts e s.log (c e) who m (not_asked_of s f who e does.stand does.link does.stands does.live (c e)))
next_cuts s s' (Takes who u) does f c =
    more_log s s' _ (ap log_of does.after) (λ e. let outs = outs_idle who does.joins.messages e in idle e (TakesUnit who u ∷ out_notes who does.joins.messages) outs.units outs.messages outs.ends) c
next_cuts s s' (Overruns who u) does f c = same_log s s' (ap log_of does.after) c
next_cuts s s' (Closes who) does f c =
    λ e. subst (AreCuts e) (sym (ap log_of does.after)) (end_cuts e s.log (c e) who (not_asked_of s f who e does.stand does.link does.stands does.live (c e)))
next_cuts s s' (Releases who) does f c = more_log s s' _ (ap log_of does.after) (λ e. idle e _ refl refl refl) c
next_cuts s s' (Carries from network segment bytes) does f c = more_log s s' _ (ap log_of does.after) (λ e. idle e _ refl refl refl) c
next_cuts s s' (Tells router segment bytes) does f c = more_log s s' _ (ap log_of does.after) (λ e. idle e _ refl refl refl) c
next_cuts s s' (Injects segment bytes) does f c = more_log s s' _ (ap log_of does) (λ e. idle e _ refl refl refl) c

pub units_are_cuts : (laws : LawsBelow) (s : Scene) → Reached s → UnitsAreCuts s
units_are_cuts laws s (begun is) = λ e. subst (AreCuts e) (sym is.log) (record { units = refl; once = inl refl })
units_are_cuts laws s (happened old deed reached does) = next_cuts old s deed does (senders_along laws reached) (units_are_cuts laws old reached)
