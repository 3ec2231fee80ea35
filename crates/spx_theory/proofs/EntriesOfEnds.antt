-- In every scene that can be reached: ends are where they were opened, gone exactly if they were released,
-- and their end is queued exactly if it was asked for.
use Rattle.std.proofs.Common.{◌≡◌, ◌≢◌, ◌<◌, ◌≤◌, ◌+◌, ℕ, true, false, List, [], ◌∷◌, ◌++◌, length, set, Option, Some, None, refl, sym, ◌∙◌, inl, inr, ap, subst, arith, length-append, length-set}
use Rattle.std.specs.Prelude.{slice_get, slice_index_or, Contains}
use Rattle.std.proofs.lemmas.List.{append-nil}
use Rattle.std.proofs.lemmas.List.Elements.{Contains-append_left, Contains-append_cases, Contains-push, Contains-push_cases}
use Rattle.std.proofs.lemmas.Option.{slice_get_within, slice_get-get_or}
use Rattle.spx_link.specs.declared.outgoing.Sent.{Sent}
use Rattle.spx_link.specs.declared.received.Received.{Received}
use Rattle.spx_link.specs.LinkView.{LinkView}
use Rattle.spx_link.specs.Poll.{poll_link}
use Rattle.spx_link.specs.Receive.{receive_link}
use Rattle.spx_link.specs.Offer.{take_link, end_link, offer_link, owe_reply_link, pace_link, again_link, lose_link, dialed, accepted_from}
use Rattle.spx_messages.specs.Message.{MessageView}
use Rattle.spx_messages.specs.Cut.{cut_of}
use Rattle.spx_theory.specs.Note.{Note, Opened, Accepted, Joined, HandsIn, HandsOut, TakesUnit, AsksEnd, Got, Released, SendsUnit, SendsAgain, SendsSystem, Told, Carried, Injected}
use Rattle.spx_theory.specs.Scene.{Scene, PresentEnd, IsPresent, linked}
use Rattle.spx_theory.specs.Deeds.{Deed, DoesDeed, Dials, Accepts, Reads, OwesReply, Paces, AsksAgain, Gives, Rests, Sends, Takes, Overruns, Closes, Releases, Carries, Tells, Injects, Reached, begun, happened}
use Rattle.spx_theory.specs.PacketsOnWay.{note_of, notes_of, out_notes}
use Rattle.spx_theory.specs.EntriesOfEnds.{EntriesTellEnds}
use Rattle.spx_theory.proofs.Lists.{get_last, get_set}
use Rattle.spx_link.specs.declared.outgoing.Sent.TheVariants as Sents
use Rattle.spx_link.specs.declared.received.Received.TheVariants as Rs
use Rattle.spx_theory.specs.Below.{LawsBelow}
use Rattle.spx_theory.proofs.Fields.{ends_of, log_of}

-- ---- the end that an entry opens, releases or closes
abbrev pub about : Note → Option ℕ
about (Opened who host buffers) = Some who
about (Accepted who parcel buffers) = None
about (Joined who parcel) = None
about (HandsIn who m) = None
about (HandsOut who m) = None
about (TakesUnit who u) = None
about (AsksEnd who) = Some who
about (Got who parcel) = None
about (Released who) = Some who
about (SendsUnit who parcel) = None
about (SendsAgain who parcel) = None
about (SendsSystem who parcel) = None
about (Told router parcel) = None
about (Carried from parcel) = None
about (Injected parcel) = None

-- entries that do none of that
abbrev pub ArePlain : List Note → Type 0
ArePlain [] = Unit {0}
ArePlain (n ∷ ns) = (about n ≡ None) × ArePlain ns

only_one : (m n : Note) → Contains (m ∷ []) n → m ≡ n
only_one m n has = elim (Contains-push_cases [] m n has) [ inl none ↦ absurd (omega (arith, none.1)) | inr same ↦ same ]

plain_at : (ns : List Note) → ArePlain ns → (n : Note) → Contains ns n → about n ≡ None
plain_at [] plain n has = absurd (omega (arith, has.1))
plain_at (m ∷ ms) plain n has =
    elim (Contains-append_cases (m ∷ []) ms n has) [
      | inl here ↦ ap about (sym (only_one m n here)) ∙ plain.0
      | inr later ↦ plain_at ms plain.1 n later
    ]

read_plain : (r : Received) (who k : ℕ) → ArePlain (notes_of r who k)
read_plain Rs.Joined who k = (refl, (refl, tt))
read_plain Rs.Kept who k = (refl, tt)
read_plain Rs.Repeat who k = (refl, tt)
read_plain Rs.Ahead who k = (refl, tt)
read_plain Rs.OverAllocation who k = (refl, tt)
read_plain Rs.System who k = (refl, tt)
read_plain Rs.PeerEnded who k = (refl, tt)
read_plain Rs.Confirmed who k = (refl, tt)
read_plain Rs.Stranger who k = tt

given_plain : (what : Sent) (who k : ℕ) → ArePlain (note_of what who k ∷ [])
given_plain Sents.Request who k = (refl, tt)
given_plain Sents.Reply who k = (refl, tt)
given_plain Sents.Confirm who k = (refl, tt)
given_plain Sents.Unit who k = (refl, tt)
given_plain Sents.Again who k = (refl, tt)
given_plain Sents.Ack who k = (refl, tt)
given_plain Sents.Probe who k = (refl, tt)

outs_plain : (who : ℕ) (ms : List MessageView) → ArePlain (out_notes who ms)
outs_plain who [] = tt
outs_plain who (m ∷ ms) = (refl, outs_plain who ms)

-- ---- one end, as the entries say
pub record IsSaid (log : List Note) (who : ℕ) (e : PresentEnd) : Type 0 where
  pub host : (host buffers : ℕ) → Contains log (Opened who host buffers) → e.host ≡ host
  pub gone : Contains log (Released who) → e.link ≡ None
  pub released : e.link ≡ None → Contains log (Released who)
  pub ended : (l : LinkView) → e.link ≡ Some l → Contains log (AsksEnd who) → l.end_queued ≡ true
  pub asked : (l : LinkView) → e.link ≡ Some l → l.end_queued ≡ true → Contains log (AsksEnd who)

-- no entry is about the end
abbrev IsUnsaid : ℕ → List Note → Type 0
IsUnsaid who ns = (n : Note) → Contains ns n → about n ≢ Some who

plain_unsaid : (who : ℕ) (ns : List Note) → ArePlain ns → IsUnsaid who ns
plain_unsaid who ns plain n has is = let no : None ≡ Some who = sym (plain_at ns plain n has) ∙ is in cc no

-- an entry about the end is an old one
old_of : (log ns : List Note) (who : ℕ) (n : Note) → IsUnsaid who ns → about n ≡ Some who → Contains (log ++ ns) n → Contains log n
old_of log ns who n none is has = elim (Contains-append_cases log ns n has) [ inl old ↦ old | inr new ↦ absurd (none n new is) ]

-- the link keeps whether its end is queued, or stays released
pub record KeepsEnding (old new : PresentEnd) : Type 0 where
  pub host : new.host ≡ old.host
  pub gone : new.link ≡ None → old.link ≡ None
  pub still : old.link ≡ None → new.link ≡ None
  pub queued : (k : LinkView) → new.link ≡ Some k → (l : LinkView) × (old.link ≡ Some l) × (k.end_queued ≡ l.end_queued)

stays_said : (log ns : List Note) (who : ℕ) (old new : PresentEnd) → IsUnsaid who ns → KeepsEnding old new → IsSaid log who old → IsSaid (log ++ ns) who new
stays_said log ns who old new none keeps said =
    record {
      host = λ host buffers has. keeps.host ∙ said.host host buffers (old_of log ns who (Opened who host buffers) none refl has);
      gone = λ has. keeps.still (said.gone (old_of log ns who (Released who) none refl has));
      released = λ gone. Contains-append_left log ns (Released who) (said.released (keeps.gone gone));
      ended = λ k is has. let was = keeps.queued k is in was.2 ∙ said.ended was.0 was.1 (old_of log ns who (AsksEnd who) none refl has);
      asked = λ k is ended. let was = keeps.queued k is in Contains-append_left log ns (AsksEnd who) (said.asked was.0 was.1 (sym was.2 ∙ ended));
    }

same_ending : (e : PresentEnd) → KeepsEnding e e
same_ending e = record { host = refl; gone = λ is. is; still = λ is. is; queued = λ k is. (k, is, refl) }

-- ---- the next scene

-- the new entries are about ends that exist
abbrev AreThere : ℕ → List Note → Type 0
AreThere count ns = (n : Note) (who : ℕ) → Contains ns n → about n ≡ Some who → who < count

plain_there : (count : ℕ) (ns : List Note) → ArePlain ns → AreThere count ns
plain_there count ns plain n who has is = absurd (plain_unsaid who ns plain n has is)

one_there : (count j : ℕ) (m : Note) → about m ≡ Some j → j < count → AreThere count (m ∷ [])
one_there count j m at within n who has is =
    let both : Some j ≡ Some who = sym at ∙ (ap about (only_one m n has) ∙ is) in
    let k : j ≡ who = cc both in
    subst (λ i. i < count) k within

there_on : (ends ends' : List PresentEnd) (log ns : List Note) → ((n : Note) (who : ℕ) → Contains log n → about n ≡ Some who → who < length ends) → length ends ≤ length ends' → AreThere (length ends') ns
    → (n : Note) (who : ℕ) → Contains (log ++ ns) n → about n ≡ Some who → who < length ends'
there_on ends ends' log ns old grows new n who has is =
    elim (Contains-append_cases log ns n has) [
      | inl was ↦ let within = old n who was is in omega (arith, within, grows)
      | inr now ↦ new n who now is
    ]

-- the invariant of all ends and the log
pub record AreSaidBy (ends : List PresentEnd) (log : List Note) : Type 0 where
  pub each : (who : ℕ) (e : PresentEnd) → slice_get ends who ≡ Some e → IsSaid log who e
  -- entries are about ends that exist
  pub there : (n : Note) (who : ℕ) → Contains log n → about n ≡ Some who → who < length ends

abbrev pub AreSaid : Scene → Type 0
AreSaid s = AreSaidBy s.ends s.log

-- an end is replaced, and entries are about no other
said_set : (ends : List PresentEnd) (log ns : List Note) (j : ℕ) (old new : PresentEnd) → slice_get ends j ≡ Some old → AreThere (length ends) ns
    → ((who : ℕ) → j ≢ who → IsUnsaid who ns) → (IsSaid log j old → IsSaid (log ++ ns) j new) → AreSaidBy ends log → AreSaidBy (set ends j new) (log ++ ns)
said_set ends log ns j old new at there others now said =
    record {
      each = λ who e is. elim (get_set ends j who new e is) [
        | inl here ↦ subst (λ (x : PresentEnd). IsSaid (log ++ ns) who x) here.1 (subst (λ k. IsSaid (log ++ ns) k new) here.0 (now (said.each j old at)))
        | inr other ↦ stays_said log ns who e e (others who other.0) (same_ending e) (said.each who e other.1)
      ];
      there = there_on ends (set ends j new) log ns said.there (omega (arith, length-set ends j new)) (λ n who has is. let within = there n who has is in omega (arith, within, length-set ends j new));
    }

-- an end is replaced, and the entries are about no end
said_plain : (ends : List PresentEnd) (log ns : List Note) (j : ℕ) (old new : PresentEnd) → slice_get ends j ≡ Some old → ArePlain ns → KeepsEnding old new → AreSaidBy ends log → AreSaidBy (set ends j new) (log ++ ns)
said_plain ends log ns j old new at plain keeps said =
    said_set ends log ns j old new at (plain_there (length ends) ns plain) (λ who differ. plain_unsaid who ns plain) (stays_said log ns j old new (plain_unsaid j ns plain) keeps) said

-- an end is added
said_more : (ends : List PresentEnd) (log ns : List Note) (new : PresentEnd) → AreThere (length ends + 1) ns
    → ((who : ℕ) → who < length ends → IsUnsaid who ns) → (((n : Note) → Contains log n → about n ≢ Some (length ends)) → IsSaid (log ++ ns) (length ends) new) → AreSaidBy ends log → AreSaidBy (ends ++ new ∷ []) (log ++ ns)
said_more ends log ns new there others now said =
    let more = length-append ends (new ∷ []) in
    record {
      each = λ who e is. elim (get_last ends new e who is) [
        | inl was ↦ stays_said log ns who e e (others who (slice_get_within ends who e was)) (same_ending e) (said.each who e was)
        | inr here ↦ subst (λ (x : PresentEnd). IsSaid (log ++ ns) who x) here.1 (subst (λ k. IsSaid (log ++ ns) k new) (sym here.0) (now (λ n has is. let within = said.there n (length ends) has is in omega (arith, within))))
      ];
      there = there_on ends (ends ++ new ∷ []) log ns said.there (omega (arith, more)) (λ n who has is. let within = there n who has is in omega (arith, within, more));
    }

-- no end changes
said_same : (ends : List PresentEnd) (log ns : List Note) → ArePlain ns → AreSaidBy ends log → AreSaidBy ends (log ++ ns)
said_same ends log ns plain said =
    record {
      each = λ who e is. stays_said log ns who e e (plain_unsaid who ns plain) (same_ending e) (said.each who e is);
      there = there_on ends ends log ns said.there (omega arith) (plain_there (length ends) ns plain);
    }

-- ---- each deed

-- an end with a link, that keeps whether its end is queued
keeps_linked : (old new : PresentEnd) (l k : LinkView) → old.link ≡ Some l → new.link ≡ Some k → new.host ≡ old.host → k.end_queued ≡ l.end_queued → KeepsEnding old new
keeps_linked old new l k was is host same =
    record {
      host = host;
      gone = λ none. let no : Some k ≡ None = sym is ∙ none in cc no;
      still = λ none. let no : Some l ≡ None = sym was ∙ none in cc no;
      queued = λ m at. let both : Some k ≡ Some m = sym is ∙ at in let one : k ≡ m = cc both in (l, was, ap (λ (x : LinkView). x.end_queued) (sym one) ∙ same);
    }

at_once : (s s' : Scene) (ends : List PresentEnd) (log : List Note) → s'.ends ≡ ends → s'.log ≡ log → AreSaidBy ends log → AreSaid s'
at_once s s' ends log is-ends is-log said = subst (λ es. AreSaidBy es s'.log) (sym is-ends) (subst (AreSaidBy ends) (sym is-log) said)

-- one link is replaced, and the entries are plain
linked_said : (s s' : Scene) (ns : List Note) (j : ℕ) (old new : PresentEnd) (l k : LinkView) → IsPresent s j old l → new.link ≡ Some k → new.host ≡ old.host → k.end_queued ≡ l.end_queued
    → ArePlain ns → s'.ends ≡ set s.ends j new → s'.log ≡ s.log ++ ns → AreSaid s → AreSaid s'
linked_said s s' ns j old new l k stands is host same plain ends log said =
    at_once s s' (set s.ends j new) (s.log ++ ns) ends log (said_plain s.ends s.log ns j old new stands.there plain (keeps_linked old new l k stands.link is host same) said)

unlogged : (s s' : Scene) → s'.log ≡ s.log → s'.log ≡ s.log ++ []
unlogged s s' is = is ∙ sym (append-nil s.log)

-- an end is added whose end is not queued; of its entries, only the first is about it, or none
new_said : (log ns : List Note) (who : ℕ) (e : PresentEnd) (l : LinkView) → e.link ≡ Some l → l.end_queued ≡ false → ((n : Note) → Contains log n → about n ≢ Some who)
    → ((host buffers : ℕ) → Contains ns (Opened who host buffers) → e.host ≡ host) → ¬ Contains ns (Released who) → ¬ Contains ns (AsksEnd who) → IsSaid (log ++ ns) who e
new_said log ns who e l is unended none host released asked =
    record {
      host = λ at buffers has. elim (Contains-append_cases log ns (Opened who at buffers) has) [ inl old ↦ absurd (none (Opened who at buffers) old refl) | inr new ↦ host at buffers new ];
      gone = λ has. elim (Contains-append_cases log ns (Released who) has) [ inl old ↦ absurd (none (Released who) old refl) | inr new ↦ absurd (released new) ];
      released = λ gone. let no : Some l ≡ None = sym is ∙ gone in cc no;
      ended = λ k at has. elim (Contains-append_cases log ns (AsksEnd who) has) [ inl old ↦ absurd (none (AsksEnd who) old refl) | inr new ↦ absurd (asked new) ];
      asked = λ k at ended.
          let both : Some l ≡ Some k = sym is ∙ at in
          let one : l ≡ k = cc both in
          let no : false ≡ true = sym unended ∙ (ap (λ (x : LinkView). x.end_queued) one ∙ ended) in
          cc no;
    }

other_unsaid : (j : ℕ) (m : Note) → about m ≡ Some j → (who : ℕ) → j ≢ who → IsUnsaid who (m ∷ [])
other_unsaid j m at who differ n has is =
    let both : Some j ≡ Some who = sym at ∙ (ap about (only_one m n has) ∙ is) in
    let k : j ≡ who = cc both in
    differ k

next_said : (laws : LawsBelow) (s s' : Scene) (deed : Deed) → DoesDeed deed s s' → AreSaid s → AreSaid s'
next_said laws s s' (Dials host id socket to buffers now) does said =
    let j : ℕ = length s.ends in
    let n : Note = Opened j host buffers in
    at_once s s' _ _ (ap ends_of does.after) (ap log_of does.after)
    (said_more s.ends s.log (n ∷ []) _ (one_there (j + 1) j n refl (omega arith)) (λ who within. other_unsaid j n refl who (λ same. omega (arith, same, within)))
    (λ none. new_said s.log (n ∷ []) j _ (dialed id socket to buffers now) refl refl none
    (λ at room has. let same : Opened j host buffers ≡ Opened j at room = only_one n (Opened j at room) has in cc same)
    (λ has. let same : Opened j host buffers ≡ Released j = only_one n (Released j) has in cc same)
    (λ has. let same : Opened j host buffers ≡ AsksEnd j = only_one n (AsksEnd j) has in cc same)) said)
next_said laws s s' (Accepts host id socket parcel buffers now) does said =
    let j : ℕ = length s.ends in
    let ns : List Note = Accepted j parcel buffers ∷ Got j parcel ∷ [] in
    let plain : ArePlain ns = (refl, (refl, tt)) in
    at_once s s' _ _ (ap ends_of does.after) (ap log_of does.after)
    (said_more s.ends s.log ns _ (plain_there (j + 1) ns plain) (λ who within. plain_unsaid who ns plain)
    (λ none. new_said s.log ns j _ (accepted_from id socket does.packet.header.from does.header buffers now) refl refl none
    (λ at room has. absurd (plain_unsaid j ns plain (Opened j at room) has refl)) (λ has. plain_unsaid j ns plain (Released j) has refl) (λ has. plain_unsaid j ns plain (AsksEnd j) has refl)) said)
next_said laws s s' (Reads who parcel) does said =
    linked_said s s' _ who does.stand (linked does.stand (receive_link does.link does.header does.body).1) does.link _ does.stands refl refl
    (laws.close.receives does.link does.header does.body).queued (read_plain (receive_link does.link does.header does.body).0 who parcel) (ap ends_of does.after) (ap log_of does.after) said
next_said laws s s' (OwesReply who) does said =
    linked_said s s' [] who does.stand (linked does.stand (owe_reply_link does.link)) does.link _ does.stands refl refl refl tt (ap ends_of does.after) (unlogged s s' (ap log_of does.after)) said
next_said laws s s' (Paces who window manual) does said =
    linked_said s s' [] who does.stand (linked does.stand (pace_link does.link window manual)) does.link _ does.stands refl refl refl tt (ap ends_of does.after) (unlogged s s' (ap log_of does.after)) said
next_said laws s s' (AsksAgain who place) does said =
    linked_said s s' [] who does.stand (linked does.stand (again_link does.link place)) does.link _ does.stands refl refl refl tt (ap ends_of does.after) (unlogged s s' (ap log_of does.after)) said
next_said laws s s' (Gives who now segment bytes) does said =
    linked_said s s' _ who does.stand (linked does.stand (poll_link does.link now).1) does.link _ does.stands refl refl
    (laws.close.polls does.link now).queued (given_plain does.given.what who (length s.parcels)) (ap ends_of does.after) (ap log_of does.after) said
next_said laws s s' (Rests who now) does said =
    linked_said s s' [] who does.stand (linked does.stand (poll_link does.link now).1) does.link _ does.stands refl refl
    (laws.close.polls does.link now).queued tt (ap ends_of does.after) (unlogged s s' (ap log_of does.after)) said
next_said laws s s' (Sends who m) does said =
    linked_said s s' _ who does.stand (linked does.stand (offer_link does.link (cut_of m))) does.link _ does.stands refl refl refl (refl, tt) (ap ends_of does.after) (ap log_of does.after) said
next_said laws s s' (Takes who u) does said =
    linked_said s s' _ who does.stand (record (linked does.stand (take_link does.link).1) { rest = does.joins.rest }) does.link _ does.stands refl refl
    (laws.close.takes does.link).queued (refl, outs_plain who does.joins.messages) (ap ends_of does.after) (ap log_of does.after) said
next_said laws s s' (Overruns who u) does said =
    linked_said s s' [] who does.stand _ does.link (lose_link (take_link does.link).1) does.stands refl refl
    (laws.close.takes does.link).queued tt (ap ends_of does.after) (unlogged s s' (ap log_of does.after)) said
next_said laws s s' (Closes who) does said =
    let n : Note = AsksEnd who in
    let l : LinkView = does.link in
    at_once s s' _ _ (ap ends_of does.after) (ap log_of does.after)
    (said_set s.ends s.log (n ∷ []) who does.stand (linked does.stand (end_link l)) does.stands.there (one_there (length s.ends) who n refl (slice_get_within s.ends who does.stand does.stands.there)) (other_unsaid who n refl)
    (λ old. record {
      host = λ host buffers has. elim (Contains-push_cases s.log n (Opened who host buffers) has) [ inl was ↦ old.host host buffers was | inr same ↦ cc same ];
      gone = λ has. elim (Contains-push_cases s.log n (Released who) has) [ inl was ↦ let no : Some l ≡ None = sym does.stands.link ∙ old.gone was in cc no | inr same ↦ cc same ];
      released = λ gone. cc gone;
      ended = λ k is has. let same : end_link l ≡ k = cc is in ap (λ (x : LinkView). x.end_queued) (sym same);
      asked = λ k is ended. Contains-push s.log n;
    }) said)
next_said laws s s' (Releases who) does said =
    let n : Note = Released who in
    at_once s s' _ _ (ap ends_of does.after) (ap log_of does.after)
    (said_set s.ends s.log (n ∷ []) who does.stand (record does.stand { link = None; rest = None }) does.stands.there (one_there (length s.ends) who n refl (slice_get_within s.ends who does.stand does.stands.there)) (other_unsaid who n refl)
    (λ old. record {
      host = λ host buffers has. elim (Contains-push_cases s.log n (Opened who host buffers) has) [ inl was ↦ old.host host buffers was | inr same ↦ cc same ];
      gone = λ has. refl;
      released = λ gone. Contains-push s.log n;
      ended = λ k is has. cc is;
      asked = λ k is ended. cc is;
    }) said)
next_said laws s s' (Carries from network segment bytes) does said = at_once s s' _ _ (ap ends_of does.after) (ap log_of does.after) (said_same s.ends s.log _ (refl, tt) said)
next_said laws s s' (Tells router segment bytes) does said = at_once s s' _ _ (ap ends_of does.after) (ap log_of does.after) (said_same s.ends s.log _ (refl, tt) said)
next_said laws s s' (Injects segment bytes) does said = at_once s s' _ _ (ap ends_of does) (ap log_of does) (said_same s.ends s.log _ (refl, tt) said)

said_along : (laws : LawsBelow) {s : Scene} → Reached s → AreSaid s
said_along laws {s} (begun is) =
    at_once s s [] [] is.ends is.log (record { each = λ who e at. cc at; there = λ n who has at. absurd (omega (arith, has.1)) })
said_along laws {s} (happened old deed reached does) = next_said laws old s deed does (said_along laws reached)

nobody_there : PresentEnd
nobody_there = record { host = 0; own = 0; link = None; rest = None; overlong = false }

pub entries_tell_ends : (laws : LawsBelow) (s : Scene) → Reached s → EntriesTellEnds s
entries_tell_ends laws s reached =
    let said = said_along laws reached in
    record {
      opened = λ who host buffers has.
          let e : PresentEnd = slice_index_or s.ends who nobody_there in
          let at : slice_get s.ends who ≡ Some e = slice_get-get_or s.ends who nobody_there (said.there (Opened who host buffers) who has refl) in
          (e, at, (said.each who e at).host host buffers has);
      released = λ who e at. let one = said.each who e at in (one.released, one.gone);
      asked = λ who e l stands. let one = said.each who e stands.there in (one.asked l stands.link, one.ended l stands.link);
    }
