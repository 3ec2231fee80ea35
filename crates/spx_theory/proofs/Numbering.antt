-- Ends and parcels are numbered in the order of the entries that make them.
use Rattle.std.proofs.Common.{◌≡◌, ◌<◌, ℕ, true, false, List, [], ◌∷◌, ◌++◌, length, set, Some, refl, sym, ◌∙◌, ap, subst, arith, length-append, length-set}
use Rattle.std.specs.Prelude.{slice_get}
use Rattle.std.proofs.lemmas.Option.{slice_get_within}
use Rattle.spx_link.specs.declared.outgoing.Sent.{Sent}
use Rattle.spx_link.specs.declared.received.Received.{Received}
use Rattle.spx_link.specs.Receive.{receive_link}
use Rattle.spx_messages.specs.Message.{MessageView}
use Rattle.spx_theory.specs.Note.{Note, Opened, Accepted, Got, HandsIn, HandsOut, AsksEnd, TakesUnit, Released, Told, Carried, Injected}
use Rattle.spx_theory.specs.Scan.{Scan, Role, seen, seen_all, scan, unread, mark_of, role_of, joined_by, asker}
use Rattle.spx_theory.specs.Scene.{Scene, PresentEnd}
use Rattle.spx_theory.specs.Deeds.{Deed, DoesDeed, Dials, Accepts, Reads, OwesReply, Paces, AsksAgain, Gives, Rests, Sends, Takes, Overruns, Closes, Releases, Carries, Tells, Injects, Reached, begun, happened}
use Rattle.spx_theory.specs.PacketsOnWay.{note_of, notes_of, out_notes}
use Rattle.spx_theory.specs.Numbered.{IsNumbered, NumbersAreInOrder}
use Rattle.spx_theory.proofs.Folding.{seen_all-append}
use Rattle.spx_theory.proofs.Held.{calmed, outs_seen}
use Rattle.spx_theory.proofs.Carrying.{given_marked, read_marks}
use Rattle.spx_theory.proofs.EndStateLemmas.{AreToldAt, are_told}
use Rattle.spx_link.specs.declared.outgoing.Sent.TheVariants as Sents
use Rattle.spx_link.specs.declared.received.Received.TheVariants as Rs
use Rattle.spx_theory.specs.Below.{LawsBelow}
use Rattle.spx_theory.proofs.Fields.{log_of, parcels_of}

abbrev pub AllNumbered : Scan → List Note → Type 0
AllNumbered s [] = Unit {0}
AllNumbered s (n ∷ ns) = IsNumbered s n × AllNumbered (seen s n) ns

numbered-append : (s : Scan) (xs ys : List Note) → AllNumbered s xs → AllNumbered (seen_all s xs) ys → AllNumbered s (xs ++ ys)
numbered-append s [] ys one two = two
numbered-append s (x ∷ xs) ys one two = (one.0, numbered-append (seen s x) xs ys one.1 two)

pub numbered_at : (s : Scan) (before after : List Note) (n : Note) → AllNumbered s (before ++ n ∷ after) → IsNumbered (seen_all s before) n
numbered_at s [] after n all = all.0
numbered_at s (x ∷ before) after n all = numbered_at (seen s x) before after n all.1

pub record AreNumbered (s : Scene) : Type 0 where
  pub count : length (scan s.log).marks ≡ length s.parcels
  pub all : AllNumbered unread s.log

-- entries are added, and there are as many parcels as marks
numbered : (s s' : Scene) (ns : List Note) → s'.log ≡ s.log ++ ns → length (seen_all (scan s.log) ns).marks ≡ length s'.parcels → AllNumbered (scan s.log) ns → AreNumbered s → AreNumbered s'
numbered s s' ns log count all a =
    record {
      count = ap (λ l. length (scan l).marks) log ∙ ap (λ (t : Scan). length t.marks) (seen_all-append unread s.log ns) ∙ count;
      all = subst (AllNumbered unread) (sym log) (numbered-append unread s.log ns a.all all);
    }

unnoted : (s s' : Scene) → s'.log ≡ s.log → s'.parcels ≡ s.parcels → AreNumbered s → AreNumbered s'
unnoted s s' log parcels a = record { count = ap (λ l. length (scan l).marks) log ∙ a.count ∙ ap length (sym parcels); all = subst (AllNumbered unread) (sym log) a.all }

outs_numbered : (s : Scan) (who : ℕ) (ms : List MessageView) → who < length s.roles → AllNumbered s (out_notes who ms)
outs_numbered s who [] within = tt
outs_numbered s who (m ∷ ms) within = (within, outs_numbered (seen s (HandsOut who m)) who ms within)

read_numbered : (r : Received) (s : Scan) (who k : ℕ) → who < length s.roles → k < length s.marks → AllNumbered s (notes_of r who k)
read_numbered Rs.Joined s who k end parcel =
    let more : length (set s.roles who (joined_by (mark_of s k).maker (role_of s who))) ≡ length s.roles = length-set s.roles who (joined_by (mark_of s k).maker (role_of s who)) in
    ((end, parcel), ((omega (arith, end, more), parcel), tt))
read_numbered Rs.Kept s who k end parcel = ((end, parcel), tt)
read_numbered Rs.Repeat s who k end parcel = ((end, parcel), tt)
read_numbered Rs.Ahead s who k end parcel = ((end, parcel), tt)
read_numbered Rs.OverAllocation s who k end parcel = ((end, parcel), tt)
read_numbered Rs.System s who k end parcel = ((end, parcel), tt)
read_numbered Rs.PeerEnded s who k end parcel = ((end, parcel), tt)
read_numbered Rs.Confirmed s who k end parcel = ((end, parcel), tt)
read_numbered Rs.Stranger s who k end parcel = tt

given_numbered : (what : Sent) (s : Scan) (who k : ℕ) → who < length s.roles → k ≡ length s.marks → IsNumbered s (note_of what who k)
given_numbered Sents.Request s who k end parcel = (end, parcel)
given_numbered Sents.Reply s who k end parcel = (end, parcel)
given_numbered Sents.Confirm s who k end parcel = (end, parcel)
given_numbered Sents.Unit s who k end parcel = (end, parcel)
given_numbered Sents.Again s who k end parcel = (end, parcel)
given_numbered Sents.Ack s who k end parcel = (end, parcel)
given_numbered Sents.Probe s who k end parcel = (end, parcel)

-- an end that exists has a role
has_role : (s : Scene) → AreToldAt s → (who : ℕ) (e : PresentEnd) → slice_get s.ends who ≡ Some e → who < length (scan s.log).roles
has_role s told who e at = omega (arith, told.count, slice_get_within s.ends who e at)

-- the same parcels
same_count : (s s' : Scene) → s'.parcels ≡ s.parcels → AreNumbered s → length (scan s.log).marks ≡ length s'.parcels
same_count s s' parcels a = a.count ∙ ap length (sym parcels)

-- one more parcel
more_count : (s s' : Scene) (bytes : List ℕ) (marks : List _) (m : _) → s'.parcels ≡ s.parcels ++ bytes ∷ [] → marks ≡ (scan s.log).marks ++ m ∷ [] → AreNumbered s → length marks ≡ length s'.parcels
more_count s s' bytes marks m parcels is a =
    ap length is ∙ omega (arith, length-append (scan s.log).marks (m ∷ []), ap length parcels, length-append s.parcels (bytes ∷ []), a.count)

next_numbered : (s s' : Scene) (deed : Deed) → DoesDeed deed s s' → AreToldAt s → AreNumbered s → AreNumbered s'
next_numbered s s' (Dials host id socket to buffers now) does told a =
    numbered s s' (Opened (length s.ends) host buffers ∷ []) (ap log_of does.after) (same_count s s' (ap parcels_of does.after) a) (sym told.count, tt) a
next_numbered s s' (Accepts host id socket parcel buffers now) does told a =
    let t : Scan = scan s.log in
    let r : Role = record { buffers = buffers; called = false; joined = true; partner = asker (mark_of t parcel).maker } in
    let within : parcel < length t.marks = omega (arith, slice_get_within s.parcels parcel does.bytes does.comes, a.count) in
    let there : length s.ends < length (t.roles ++ r ∷ []) = omega (arith, length-append t.roles (r ∷ []), told.count) in
    numbered s s' (Accepted (length s.ends) parcel buffers ∷ Got (length s.ends) parcel ∷ []) (ap log_of does.after) (same_count s s' (ap parcels_of does.after) a)
    ((sym told.count, within), ((there, within), tt)) a
next_numbered s s' (Reads who parcel) does told a =
    let r : Received = (receive_link does.link does.header does.body).0 in
    numbered s s' (notes_of r who parcel) (ap log_of does.after) (ap length (read_marks r who parcel (scan s.log)) ∙ same_count s s' (ap parcels_of does.after) a)
    (read_numbered r (scan s.log) who parcel (has_role s told who does.stand does.stands.there) (omega (arith, slice_get_within s.parcels parcel does.bytes does.comes, a.count))) a
next_numbered s s' (OwesReply who) does told a = unnoted s s' (ap log_of does.after) (ap parcels_of does.after) a
next_numbered s s' (Paces who window manual) does told a = unnoted s s' (ap log_of does.after) (ap parcels_of does.after) a
next_numbered s s' (AsksAgain who place) does told a = unnoted s s' (ap log_of does.after) (ap parcels_of does.after) a
next_numbered s s' (Gives who now segment bytes) does told a =
    let g = given_marked (scan s.log) does.given.what who (length s.parcels) in
    numbered s s' (note_of does.given.what who (length s.parcels) ∷ []) (ap log_of does.after) (more_count s s' bytes _ g.mark (ap parcels_of does.after) g.marks a)
    (given_numbered does.given.what (scan s.log) who (length s.parcels) (has_role s told who does.stand does.stands.there) (sym a.count), tt) a
next_numbered s s' (Rests who now) does told a = unnoted s s' (ap log_of does.after) (ap parcels_of does.after) a
next_numbered s s' (Sends who m) does told a =
    numbered s s' (HandsIn who m ∷ []) (ap log_of does.after) (same_count s s' (ap parcels_of does.after) a) (has_role s told who does.stand does.stands.there, tt) a
next_numbered s s' (Takes who u) does told a =
    let within = has_role s told who does.stand does.stands.there in
    numbered s s' (TakesUnit who u ∷ out_notes who does.joins.messages) (ap log_of does.after)
    (ap (λ (t : Scan). length t.marks) (outs_seen (scan s.log) who does.joins.messages) ∙ same_count s s' (ap parcels_of does.after) a)
    (within, outs_numbered (calmed (scan s.log)) who does.joins.messages within) a
next_numbered s s' (Overruns who u) does told a = unnoted s s' (ap log_of does.after) (ap parcels_of does.after) a
next_numbered s s' (Closes who) does told a =
    numbered s s' (AsksEnd who ∷ []) (ap log_of does.after) (same_count s s' (ap parcels_of does.after) a) (has_role s told who does.stand does.stands.there, tt) a
next_numbered s s' (Releases who) does told a =
    numbered s s' (Released who ∷ []) (ap log_of does.after) (same_count s s' (ap parcels_of does.after) a) (has_role s told who does.stand does.stands.there, tt) a
next_numbered s s' (Carries from network segment bytes) does told a =
    numbered s s' (Carried from (length s.parcels) ∷ []) (ap log_of does.after) (more_count s s' bytes _ _ (ap parcels_of does.after) refl a)
    ((omega (arith, slice_get_within s.parcels from does.old does.comes, a.count), sym a.count), tt) a
next_numbered s s' (Tells router segment bytes) does told a =
    numbered s s' (Told router (length s.parcels) ∷ []) (ap log_of does.after) (more_count s s' bytes _ _ (ap parcels_of does.after) refl a) (sym a.count, tt) a
next_numbered s s' (Injects segment bytes) does told a =
    numbered s s' (Injected (length s.parcels) ∷ []) (ap log_of does) (more_count s s' bytes _ _ (ap parcels_of does) refl a) (sym a.count, tt) a

pub are_numbered : (laws : LawsBelow) {s : Scene} → Reached s → AreNumbered s
are_numbered laws {s} (begun is) =
    record { count = ap (λ l. length (scan l).marks) is.log ∙ sym (ap length is.parcels); all = subst (AllNumbered unread) (sym is.log) tt }
are_numbered laws {s} (happened old deed reached does) = next_numbered old s deed does (are_told laws reached) (are_numbered laws reached)

pub numbers_are_in_order : (laws : LawsBelow) (s : Scene) → Reached s → NumbersAreInOrder s
numbers_are_in_order laws s reached =
    let a = are_numbered laws reached in
    record {
      ends = (are_told laws reached).count;
      parcels = a.count;
      entries = λ before after n is. numbered_at unread before after n (subst (AllNumbered unread) is a.all);
    }
