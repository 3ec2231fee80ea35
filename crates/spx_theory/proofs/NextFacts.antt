-- Each deed keeps the facts.
use Rattle.std.proofs.Common.{◌≡◌, ◌≢◌, ◌+◌, ℕ, true, false, List, [], ◌∷◌, ◌++◌, length, set, Some, None, refl, sym, ◌∙◌, inl, inr, ap, subst, arith, length-set}
use Rattle.spx_link.specs.declared.outgoing.Sent.{Sent}
use Rattle.spx_link.specs.declared.state.State.TheVariants.{Opening}
use Rattle.spx_link.specs.LinkView.{LinkView}
use Rattle.spx_link.specs.Poll.{poll_link}
use Rattle.spx_link.specs.Receive.{receive_link}
use Rattle.spx_link.specs.Offer.{owe_reply_link, pace_link, again_link, take_link, offer_link, end_link}
use Rattle.spx_messages.specs.Cut.{cut_of}
use Rattle.spx_theory.specs.Note.{Note, Opened, Accepted, Joined, Got, HandsIn, AsksEnd, TakesUnit, Released, Told, Carried, Injected}
use Rattle.spx_theory.specs.Scan.{Scan, Mark, seen, seen_all, scan, unread, mark_of, one_further, asker, ByUnit, BySystem, ByRouter, FromOutside}
use Rattle.spx_theory.specs.Peers.{end_of}
use Rattle.spx_theory.specs.Scene.{Scene, PresentEnd, IsPresent, linked}
use Rattle.spx_theory.specs.Deeds.{Deed, DoesDeed, Dials, Accepts, Reads, OwesReply, Paces, AsksAgain, Gives, Rests, Sends, Takes, Overruns, Closes, Releases, Carries, Tells, Injects}
use Rattle.spx_theory.specs.PacketsOnWay.{note_of, out_notes}
use Rattle.std.proofs.lemmas.Option.{slice_get_within}
use Rattle.spx_theory.proofs.Folding.{NoteIn, seen_all-append}
use Rattle.spx_theory.proofs.Facts.{Facts, OpeningsAreUnjoined, opening_set, facts_noted, facts_sent, facts_end, facts_joined}
use Rattle.spx_theory.proofs.Held.{calmed, outs_seen, outs_are}
use Rattle.spx_theory.proofs.HeldReads.{notes_cases}
use Rattle.spx_link.specs.declared.outgoing.Sent.TheVariants as Sents
use Rattle.spx_theory.specs.Below.{LawsBelow}

abbrev pub FactsAt : Scene → Type 0
FactsAt s = Facts s.ends s.parcels (scan s.log) s.log

facts_at : (ends : List PresentEnd) (parcels : List (List ℕ)) (log ns : List Note) → Facts ends parcels (seen_all (scan log) ns) (log ++ ns) → Facts ends parcels (scan (log ++ ns)) (log ++ ns)
facts_at ends parcels log ns f = subst (λ t. Facts ends parcels t (log ++ ns)) (sym (seen_all-append unread log ns)) f

-- an end is replaced, without an entry
facts_put : (ends : List PresentEnd) (who : ℕ) (w : PresentEnd) (parcels : List (List ℕ)) (s : Scan) (log : List Note) → OpeningsAreUnjoined (set ends who w) s.roles
    → Facts ends parcels s log → Facts (set ends who w) parcels s log
facts_put ends who w parcels s log opening f =
    record {
      count = f.count;
      roles = f.roles ∙ sym (length-set ends who w);
      newest = f.newest;
      are = f.are;
      makers = λ k e by. omega (arith, length-set ends who w, f.makers k e by);
      opening = opening;
    }

-- the link of an end is opening only if it was before
abbrev pub NeverOpens : LinkView → LinkView → Type 0
NeverOpens l k = k.state ≡ Opening → l.state ≡ Opening

keeps_opening : (s : Scene) (who : ℕ) (e : PresentEnd) (l k : LinkView) → FactsAt s → IsPresent s who e l → NeverOpens l k → OpeningsAreUnjoined (set s.ends who (linked e k)) (scan s.log).roles
keeps_opening s who e l k f stands opens =
    opening_set s.ends (scan s.log).roles who e (linked e k) stands.there
    (λ m is open'. let same : k ≡ m = cc is in (l, stands.link, opens (ap (λ (x : LinkView). x.state) same ∙ open'))) f.opening

given_in : (count : ℕ) (what : Sent) (who : ℕ) → NoteIn (count + 1) (note_of what who count)
given_in count Sents.Request who = tt
given_in count Sents.Reply who = tt
given_in count Sents.Confirm who = tt
given_in count Sents.Unit who = tt
given_in count Sents.Again who = omega arith
given_in count Sents.Ack who = tt
given_in count Sents.Probe who = tt

-- the mark of a packet that is sent
abbrev pub given_mark : Scan → Sent → ℕ → Mark
given_mark s Sents.Request who = record { origin = length s.marks; maker = BySystem who; passed = 0; units = length s.sent }
given_mark s Sents.Reply who = record { origin = length s.marks; maker = BySystem who; passed = 0; units = length s.sent }
given_mark s Sents.Confirm who = record { origin = length s.marks; maker = BySystem who; passed = 0; units = length s.sent }
given_mark s Sents.Unit who = record { origin = length s.marks; maker = ByUnit who; passed = 0; units = length (s.sent ++ who ∷ []) }
given_mark s Sents.Again who = record { origin = length s.marks; maker = ByUnit who; passed = 0; units = length s.sent }
given_mark s Sents.Ack who = record { origin = length s.marks; maker = BySystem who; passed = 0; units = length s.sent }
given_mark s Sents.Probe who = record { origin = length s.marks; maker = BySystem who; passed = 0; units = length s.sent }

pub record GivenScan (s : Scan) (what : Sent) (who k : ℕ) : Type 0 where
  pub marks : (seen s (note_of what who k)).marks ≡ s.marks ++ given_mark s what who ∷ []
  pub roles : (seen s (note_of what who k)).roles ≡ s.roles
  pub newest : (seen s (note_of what who k)).newest ≡ None
  pub maker : end_of (given_mark s what who).maker ≡ Some who

pub given_scan : (s : Scan) (what : Sent) (who k : ℕ) → GivenScan s what who k
given_scan s Sents.Request who k = record { marks = refl; roles = refl; newest = refl; maker = refl }
given_scan s Sents.Reply who k = record { marks = refl; roles = refl; newest = refl; maker = refl }
given_scan s Sents.Confirm who k = record { marks = refl; roles = refl; newest = refl; maker = refl }
given_scan s Sents.Unit who k = record { marks = refl; roles = refl; newest = refl; maker = refl }
given_scan s Sents.Again who k = record { marks = refl; roles = refl; newest = refl; maker = refl }
given_scan s Sents.Ack who k = record { marks = refl; roles = refl; newest = refl; maker = refl }
given_scan s Sents.Probe who k = record { marks = refl; roles = refl; newest = refl; maker = refl }

pub next_facts : (laws : LawsBelow) (s s' : Scene) (deed : Deed) → DoesDeed deed s s' → FactsAt s → FactsAt s'
next_facts laws s s' (Dials host id socket to buffers now) does f =
    subst FactsAt (sym does.after)
    (facts_at _ s.parcels s.log (Opened (length s.ends) host buffers ∷ [])
    (facts_end s.ends _ s.parcels (scan s.log) _ (record { buffers = buffers; called = true; joined = false; partner = None }) s.log (Opened (length s.ends) host buffers ∷ [])
    refl refl refl (tt, tt) (λ l is o. refl) f))
next_facts laws s s' (Accepts host id socket parcel buffers now) does f =
    subst FactsAt (sym does.after)
    (facts_at _ s.parcels s.log (Accepted (length s.ends) parcel buffers ∷ Got (length s.ends) parcel ∷ [])
    (facts_end s.ends _ s.parcels (scan s.log) _ (record { buffers = buffers; called = false; joined = true; partner = asker (mark_of (scan s.log) parcel).maker }) s.log
    (Accepted (length s.ends) parcel buffers ∷ Got (length s.ends) parcel ∷ [])
    refl refl refl (tt, (tt, tt)) (λ l is o. let same : Some l.state ≡ Some Opening = ap Some o in absurd (cc (is, o))) f))
next_facts laws s s' (Reads who parcel) does f =
    subst FactsAt (sym does.after)
    (elim (notes_cases (receive_link does.link does.header does.body).0 who parcel does.read) [
      | inl joins ↦ subst (λ ns. Facts (set s.ends who (linked does.stand k)) s.parcels (scan (s.log ++ ns)) (s.log ++ ns)) (sym joins.1)
          (facts_at _ s.parcels s.log (Joined who parcel ∷ Got who parcel ∷ [])
          (facts_joined s.ends who (linked does.stand k) s.parcels (scan s.log) _ _ s.log (Joined who parcel ∷ Got who parcel ∷ []) refl refl refl (tt, (tt, tt))
          (λ l is o. let same : k ≡ l = cc is in closed (ap (λ (x : LinkView). x.state) same ∙ o)) f))
      | inr gets ↦ subst (λ ns. Facts (set s.ends who (linked does.stand k)) s.parcels (scan (s.log ++ ns)) (s.log ++ ns)) (sym gets.1)
          (facts_at _ s.parcels s.log (Got who parcel ∷ [])
          (facts_noted s.ends (set s.ends who (linked does.stand k)) s.parcels (scan s.log) _ s.log (Got who parcel ∷ []) (length-set s.ends who (linked does.stand k)) refl refl refl (tt, tt)
          (keeps_opening s who does.stand does.link k f does.stands (λ o. absurd (closed o))) f))
    ])
  where
    k : LinkView
    k = (receive_link does.link does.header does.body).1

    closed : k.state ≢ Opening
    closed = laws.states.reads_open does.link does.header does.body does.read
next_facts laws s s' (OwesReply who) does f =
    subst FactsAt (sym does.after) (facts_put s.ends who _ s.parcels (scan s.log) s.log (keeps_opening s who does.stand does.link (owe_reply_link does.link) f does.stands (λ o. o)) f)
next_facts laws s s' (Paces who window manual) does f =
    subst FactsAt (sym does.after) (facts_put s.ends who _ s.parcels (scan s.log) s.log (keeps_opening s who does.stand does.link (pace_link does.link window manual) f does.stands (λ o. o)) f)
next_facts laws s s' (AsksAgain who place) does f =
    subst FactsAt (sym does.after) (facts_put s.ends who _ s.parcels (scan s.log) s.log (keeps_opening s who does.stand does.link (again_link does.link place) f does.stands (λ o. o)) f)
next_facts laws s s' (Gives who now segment bytes) does f =
    let k : LinkView = (poll_link does.link now).1 in
    let g = given_scan (scan s.log) does.given.what who (length s.parcels) in
    subst FactsAt (sym does.after)
    (facts_at _ (s.parcels ++ bytes ∷ []) s.log (note_of does.given.what who (length s.parcels) ∷ [])
    (facts_sent s.ends (set s.ends who (linked does.stand k)) s.parcels bytes (scan s.log) _ (given_mark (scan s.log) does.given.what who) s.log (note_of does.given.what who (length s.parcels))
    (length-set s.ends who (linked does.stand k)) g.marks
    (λ e by. let same : Some who ≡ Some e = sym g.maker ∙ by in let is : who ≡ e = cc same in omega (arith, is, slice_get_within s.ends who does.stand does.stands.there))
    g.roles g.newest (given_in (length s.parcels) does.given.what who)
    (keeps_opening s who does.stand does.link k f does.stands (laws.states.polls_open does.link now)) f))
next_facts laws s s' (Rests who now) does f =
    subst FactsAt (sym does.after) (facts_put s.ends who _ s.parcels (scan s.log) s.log (keeps_opening s who does.stand does.link (poll_link does.link now).1 f does.stands (laws.states.polls_open does.link now)) f)
next_facts laws s s' (Sends who m) does f =
    subst FactsAt (sym does.after)
    (facts_at _ s.parcels s.log (HandsIn who m ∷ [])
    (facts_noted s.ends _ s.parcels (scan s.log) _ s.log (HandsIn who m ∷ []) (length-set s.ends who _) refl refl refl (tt, tt)
    (keeps_opening s who does.stand does.link (offer_link does.link (cut_of m)) f does.stands (λ o. o)) f))
next_facts laws s s' (Takes who u) does f =
    let k : LinkView = (take_link does.link).1 in
    let out : seen_all (scan s.log) (TakesUnit who u ∷ out_notes who does.joins.messages) ≡ calmed (scan s.log) = outs_seen (scan s.log) who does.joins.messages in
    subst FactsAt (sym does.after)
    (facts_at _ s.parcels s.log (TakesUnit who u ∷ out_notes who does.joins.messages)
    (facts_noted s.ends _ s.parcels (scan s.log) _ s.log (TakesUnit who u ∷ out_notes who does.joins.messages) (length-set s.ends who _)
    (ap (λ (t : Scan). t.marks) out) (ap (λ (t : Scan). t.roles) out) (ap (λ (t : Scan). t.newest) out) (tt, outs_are (length s.parcels) who does.joins.messages)
    (opening_set s.ends (scan s.log).roles who does.stand _ does.stands.there
    (λ m is o. let same : k ≡ m = cc is in (does.link, does.stands.link, sym (laws.states.takes_open does.link) ∙ ap (λ (x : LinkView). x.state) same ∙ o)) f.opening) f))
next_facts laws s s' (Overruns who u) does f =
    subst FactsAt (sym does.after)
    (facts_put s.ends who _ s.parcels (scan s.log) s.log
    (opening_set s.ends (scan s.log).roles who does.stand _ does.stands.there (λ m is o. absurd (cc (is, o))) f.opening) f)
next_facts laws s s' (Closes who) does f =
    subst FactsAt (sym does.after)
    (facts_at _ s.parcels s.log (AsksEnd who ∷ [])
    (facts_noted s.ends _ s.parcels (scan s.log) _ s.log (AsksEnd who ∷ []) (length-set s.ends who _) refl refl refl (tt, tt)
    (keeps_opening s who does.stand does.link (end_link does.link) f does.stands (λ o. absurd (cc o))) f))
next_facts laws s s' (Releases who) does f =
    subst FactsAt (sym does.after)
    (facts_at _ s.parcels s.log (Released who ∷ [])
    (facts_noted s.ends _ s.parcels (scan s.log) _ s.log (Released who ∷ []) (length-set s.ends who _) refl refl refl (tt, tt)
    (opening_set s.ends (scan s.log).roles who does.stand _ does.stands.there (λ m is o. absurd (cc is)) f.opening) f))
next_facts laws s s' (Carries from network segment bytes) does f =
    subst FactsAt (sym does.after)
    (facts_at _ (s.parcels ++ bytes ∷ []) s.log (Carried from (length s.parcels) ∷ [])
    (facts_sent s.ends s.ends s.parcels bytes (scan s.log) _ (one_further (mark_of (scan s.log) from)) s.log (Carried from (length s.parcels)) refl refl
    (λ e by. f.makers from e by) refl refl tt f.opening f))
next_facts laws s s' (Tells router segment bytes) does f =
    subst FactsAt (sym does.after)
    (facts_at _ (s.parcels ++ bytes ∷ []) s.log (Told router (length s.parcels) ∷ [])
    (facts_sent s.ends s.ends s.parcels bytes (scan s.log) _ (record { origin = length (scan s.log).marks; maker = ByRouter router; passed = 0; units = length (scan s.log).sent }) s.log (Told router (length s.parcels)) refl refl
    (λ e by. absurd (cc by)) refl refl tt f.opening f))
next_facts laws s s' (Injects segment bytes) does f =
    subst FactsAt (sym does)
    (facts_at _ (s.parcels ++ bytes ∷ []) s.log (Injected (length s.parcels) ∷ [])
    (facts_sent s.ends s.ends s.parcels bytes (scan s.log) _ (record { origin = length (scan s.log).marks; maker = FromOutside; passed = 0; units = length (scan s.log).sent }) s.log (Injected (length s.parcels)) refl refl
    (λ e by. absurd (cc by)) refl refl tt f.opening f))
