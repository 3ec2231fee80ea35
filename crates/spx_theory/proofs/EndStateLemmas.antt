-- The summaries of the ends follow from the log.
use Rattle.std.proofs.Common.{◌≡◌, ◌≢◌, ◌≤◌, ◌<◌, ◌+◌, ◌==◌, ℕ, true, false, cond, List, [], ◌∷◌, ◌++◌, length, set, Some, None, refl, sym, ◌∙◌, ap, subst, arith, inl, inr, length-append, length-set, ne_eqb}
use Rattle.std.specs.Prelude.{slice_get, slice_index_or}
use Rattle.std.proofs.lemmas.List.{append-nil}
use Rattle.std.proofs.lemmas.Bool.{cond_both}
use Rattle.std.proofs.lemmas.Option.{slice_get_within, slice_get-get_or}
use Rattle.spx_link.specs.declared.outgoing.Sent.{Sent}
use Rattle.spx_link.specs.declared.received.Received.{Received}
use Rattle.spx_link.specs.LinkView.{LinkView}
use Rattle.spx_link.specs.SequenceMarks.{mark}
use Rattle.spx_link.specs.Poll.{poll_link}
use Rattle.spx_link.specs.Receive.{receive_link}
use Rattle.spx_link.specs.Offer.{owe_reply_link, pace_link, again_link, take_link, offer_link, end_link, lose_link, dialed, accepted_from}
use Rattle.spx_messages.specs.Cut.{cut_of}
use Rattle.spx_theory.specs.Note.{Note, Opened, Accepted, Got, HandsIn, AsksEnd, TakesUnit, Released, Told, Carried, Injected}
use Rattle.spx_theory.specs.Scan.{Scan, Role, Maker, times, seen, seen_all, scan, unread, no_role, mark_of, joined_by, asker}
use Rattle.spx_theory.specs.Scene.{Scene, PresentEnd, linked}
use Rattle.spx_theory.specs.Deeds.{Deed, DoesDeed, Dials, Accepts, Reads, OwesReply, Paces, AsksAgain, Gives, Rests, Sends, Takes, Overruns, Closes, Releases, Carries, Tells, Injects, Reached, begun, happened}
use Rattle.spx_theory.specs.PacketsOnWay.{note_of, notes_of, out_notes}
use Rattle.spx_theory.specs.EndsSummarized.{EndsAreSummarized}
use Rattle.spx_theory.proofs.Lists.{get_last, get_set, times-append}
use Rattle.spx_theory.proofs.Speaking.{eqb_same}
use Rattle.spx_theory.proofs.Folding.{seen_all-append}
use Rattle.spx_theory.proofs.Held.{calmed, outs_seen}
use Rattle.spx_theory.specs.Lasting.{Lasting, lasting, NextBy, NextOf}
use Rattle.spx_link.specs.declared.outgoing.Sent.TheVariants as Sents
use Rattle.spx_link.specs.declared.received.Received.TheVariants as Rs
use Rattle.spx_theory.specs.Below.{LawsBelow}

pub record AreAdvertised (ends : List PresentEnd) (s : Scan) : Type 0 where
  pub count : length s.roles ≡ length ends
  pub next : (who : ℕ) (e : PresentEnd) (l : LinkView) → slice_get ends who ≡ Some e → e.link ≡ Some l → l.next ≡ mark (times who s.sent)
  pub buffers : (who : ℕ) (e : PresentEnd) (l : LinkView) (r : Role) → slice_get ends who ≡ Some e → e.link ≡ Some l → slice_get s.roles who ≡ Some r → l.buffers ≡ r.buffers
  pub unmade : (who : ℕ) → length ends ≤ who → times who s.sent ≡ 0

-- roles keep their buffers, and none is added or removed
pub record SameRoles (old new : List Role) : Type 0 where
  pub count : length new ≡ length old
  pub buffers : (k : ℕ) (r : Role) → slice_get new k ≡ Some r → (q : Role) × (slice_get old k ≡ Some q) × (q.buffers ≡ r.buffers)

-- what entries do, by which the end j sent these units
pub record SentBy (j : ℕ) (more : List ℕ) (s t : Scan) : Type 0 where
  pub sent : t.sent ≡ s.sent ++ more
  pub others : (e : ℕ) → j ≢ e → times e more ≡ 0
  pub roles : SameRoles s.roles t.roles

same_roles : (rs rs' : List Role) → rs' ≡ rs → SameRoles rs rs'
same_roles rs rs' is = record { count = ap length is; buffers = λ k r at. (r, ap (λ qs. slice_get qs k) (sym is) ∙ at, refl) }

nothing_sent : (j : ℕ) (s t : Scan) → t.sent ≡ s.sent → t.roles ≡ s.roles → SentBy j [] s t
nothing_sent j s t sent roles = record { sent = sent ∙ sym (append-nil s.sent); others = λ e differ. refl; roles = same_roles s.roles t.roles roles }

joined_roles : (m : Maker) (rs : List Role) (who : ℕ) → SameRoles rs (set rs who (joined_by m (slice_index_or rs who no_role)))
joined_roles m rs who =
    let r : Role = slice_index_or rs who no_role in
    let keeps : r.buffers ≡ (joined_by m r).buffers = cond_both r.joined r (record r { joined = true; partner = asker m }) (λ (q : Role). r.buffers ≡ q.buffers) (λ y. refl) (λ n. refl) in
    record {
      count = length-set rs who (joined_by m r);
      buffers = λ k q at. elim (get_set rs who k (joined_by m r) q at) [
        | inl here ↦
            let within : who < length rs = omega (arith, here.0, slice_get_within (set rs who (joined_by m r)) k q at, length-set rs who (joined_by m r)) in
            (r, ap (slice_get rs) (sym here.0) ∙ slice_get-get_or rs who no_role within, keeps ∙ ap (λ (p : Role). p.buffers) here.1)
        | inr other ↦ (q, other.1, refl)
      ];
    }

-- the link of an end after it sent these units
abbrev Follows' : ℕ → List ℕ → PresentEnd → PresentEnd → Type 0
Follows' j more old new = (k : LinkView) → new.link ≡ Some k
    → (l : LinkView) × (old.link ≡ Some l) × ((n : ℕ) → l.next ≡ mark n → k.next ≡ mark (n + times j more)) × (k.buffers ≡ l.buffers)

told_set : (ends : List PresentEnd) (s t : Scan) (j : ℕ) (more : List ℕ) (old new : PresentEnd) → slice_get ends j ≡ Some old → Follows' j more old new → SentBy j more s t → AreAdvertised ends s → AreAdvertised (set ends j new) t
told_set ends s t j more old new there follows by a =
    let counts : (e : ℕ) → times e t.sent ≡ times e s.sent + times e more = λ e. ap (times e) by.sent ∙ times-append e s.sent more in
    record {
      count = by.roles.count ∙ a.count ∙ sym (length-set ends j new);
      next = λ who e k at is. elim (get_set ends j who new e at) [
        | inl here ↦
            let was = follows k (ap (λ (x : PresentEnd). x.link) here.1 ∙ is) in
            subst (λ i. k.next ≡ mark (times i t.sent)) here.0 (was.2 (times j s.sent) (a.next j old was.0 there was.1) ∙ ap mark (sym (counts j)))
        | inr other ↦
            let none : times who more ≡ 0 = by.others who other.0 in
            omega (arith, a.next who e k other.1 is, counts who, none)
      ];
      buffers = λ who e k r at is role.
          let q = by.roles.buffers who r role in
          elim (get_set ends j who new e at) [
            | inl here ↦
                let was = follows k (ap (λ (x : PresentEnd). x.link) here.1 ∙ is) in
                was.3 ∙ a.buffers j old was.0 q.0 there was.1 (ap (slice_get s.roles) here.0 ∙ q.1) ∙ q.2
            | inr other ↦ a.buffers who e k q.0 other.1 is q.1 ∙ q.2
          ];
      unmade = λ who past.
          let within : j < length ends = slice_get_within ends j old there in
          let none : times who more ≡ 0 = by.others who (λ same. omega (arith, same, past, length-set ends j new, within)) in
          omega (arith, counts who, none, a.unmade who (omega (arith, past, length-set ends j new)));
    }

told_new : (ends : List PresentEnd) (s t : Scan) (e : PresentEnd) (r : Role) → t.sent ≡ s.sent → t.roles ≡ s.roles ++ r ∷ [] → ((l : LinkView) → e.link ≡ Some l → (l.next ≡ 0) × (l.buffers ≡ r.buffers)) → AreAdvertised ends s → AreAdvertised (ends ++ e ∷ []) t
told_new ends s t e r sent roles is-new a =
    record {
      count = omega (arith, ap length roles, length-append s.roles (r ∷ []), length-append ends (e ∷ []), a.count);
      next = λ who f l at is. elim (get_last ends e f who at) [
        | inl was ↦ a.next who f l was is ∙ ap (λ ns. mark (times who ns)) (sym sent)
        | inr new ↦
            let none : times who s.sent ≡ 0 = a.unmade who (omega (arith, new.0)) in
            (is-new l (ap (λ (x : PresentEnd). x.link) new.1 ∙ is)).0 ∙ ap mark (sym (ap (times who) sent ∙ none))
      ];
      buffers = λ who f l q at is role.
          let role' : slice_get (s.roles ++ r ∷ []) who ≡ Some q = ap (λ rs. slice_get rs who) (sym roles) ∙ role in
          elim (get_last ends e f who at) [
            | inl was ↦ elim (get_last s.roles r q who role') [
              | inl before ↦ a.buffers who f l q was is before
              | inr last ↦ absurd (omega (arith, last.0, a.count, slice_get_within ends who f was))
            ]
            | inr new ↦ elim (get_last s.roles r q who role') [
              | inl before ↦ absurd (omega (arith, new.0, a.count, slice_get_within s.roles who q before))
              | inr last ↦ (is-new l (ap (λ (x : PresentEnd). x.link) new.1 ∙ is)).1 ∙ ap (λ (p : Role). p.buffers) last.1
            ]
          ];
      unmade = λ who past. ap (times who) sent ∙ a.unmade who (omega (arith, past, length-append ends (e ∷ [])));
    }

told_same : (ends : List PresentEnd) (s t : Scan) → t.sent ≡ s.sent → t.roles ≡ s.roles → AreAdvertised ends s → AreAdvertised ends t
told_same ends s t sent roles a =
    record {
      count = ap length roles ∙ a.count;
      next = λ who e l at is. a.next who e l at is ∙ ap (λ ns. mark (times who ns)) (sym sent);
      buffers = λ who e l r at is role. a.buffers who e l r at is (ap (λ rs. slice_get rs who) (sym roles) ∙ role);
      unmade = λ who past. ap (times who) sent ∙ a.unmade who past;
    }

-- ---- what each call makes of a link

same_link : (j : ℕ) (e : PresentEnd) (l : LinkView) (new : PresentEnd) (k : LinkView) → e.link ≡ Some l → new.link ≡ Some k → lasting k ≡ lasting l → Follows' j [] e new
same_link j e l new k was is same m at =
    let now : k ≡ m = cc (sym is ∙ at) in
    let kept : lasting m ≡ lasting l = ap lasting (sym now) ∙ same in
    (l, was, (λ n next. ap (λ (x : Lasting). x.next) kept ∙ next ∙ ap mark (sym (plain n))), ap (λ (x : Lasting). x.buffers) kept)
  where
    plain : (n : ℕ) → n + 0 ≡ n
    plain n = omega arith

-- the units of a packet that is sent
abbrev pub given_more : Sent → ℕ → List ℕ
given_more Sents.Request who = []
given_more Sents.Reply who = []
given_more Sents.Confirm who = []
given_more Sents.Unit who = who ∷ []
given_more Sents.Again who = []
given_more Sents.Ack who = []
given_more Sents.Probe who = []

pub given_sent : (s : Scan) (what : Sent) (who k : ℕ) → SentBy who (given_more what who) s (seen s (note_of what who k))
given_sent s Sents.Request who k = nothing_sent who s _ refl refl
given_sent s Sents.Reply who k = nothing_sent who s _ refl refl
given_sent s Sents.Confirm who k = nothing_sent who s _ refl refl
given_sent s Sents.Unit who k =
    record {
      sent = refl;
      others = λ e differ. let no : (who == e) ≡ false = ne_eqb who e differ in ap (λ b. cond b 1 0 + 0) no;
      roles = same_roles s.roles s.roles refl;
    }
given_sent s Sents.Again who k = nothing_sent who s _ refl refl
given_sent s Sents.Ack who k = nothing_sent who s _ refl refl
given_sent s Sents.Probe who k = nothing_sent who s _ refl refl

given_link : (who : ℕ) (e : PresentEnd) (l k : LinkView) (what : Sent) → e.link ≡ Some l → NextBy what l k → Follows' who (given_more what who) e (linked e k)
given_link who e l k Sents.Request was same = same_link who e l (linked e k) k was refl same
given_link who e l k Sents.Reply was same = same_link who e l (linked e k) k was refl same
given_link who e l k Sents.Confirm was same = same_link who e l (linked e k) k was refl same
given_link who e l k Sents.Unit was more = λ m at.
    let now : k ≡ m = cc at in
    let kept : lasting m ≡ record (lasting l) { next = mark (l.next + 1) } = ap lasting (sym now) ∙ more in
    let one : times who (who ∷ []) ≡ 1 = ap (λ b. cond b 1 0 + 0) (eqb_same who) in
    (l, was, (λ n next. let is : m.next ≡ mark (l.next + 1) = ap (λ (x : Lasting). x.next) kept in omega (arith, is, next, one)), ap (λ (x : Lasting). x.buffers) kept)
given_link who e l k Sents.Again was same = same_link who e l (linked e k) k was refl same
given_link who e l k Sents.Ack was same = same_link who e l (linked e k) k was refl same
given_link who e l k Sents.Probe was same = same_link who e l (linked e k) k was refl same

pub read_sent : (r : Received) (who k : ℕ) (s : Scan) → SentBy who [] s (seen_all s (notes_of r who k))
read_sent Rs.Joined who k s = record { sent = sym (append-nil s.sent); others = λ e differ. refl; roles = joined_roles (mark_of s k).maker s.roles who }
read_sent Rs.Kept who k s = nothing_sent who s _ refl refl
read_sent Rs.Repeat who k s = nothing_sent who s _ refl refl
read_sent Rs.Ahead who k s = nothing_sent who s _ refl refl
read_sent Rs.OverAllocation who k s = nothing_sent who s _ refl refl
read_sent Rs.System who k s = nothing_sent who s _ refl refl
read_sent Rs.PeerEnded who k s = nothing_sent who s _ refl refl
read_sent Rs.Confirmed who k s = nothing_sent who s _ refl refl
read_sent Rs.Stranger who k s = nothing_sent who s _ refl refl

-- ---- each deed

abbrev pub AreToldAt : Scene → Type 0
AreToldAt s = AreAdvertised s.ends (scan s.log)

told_at : (ends : List PresentEnd) (log ns : List Note) → AreAdvertised ends (seen_all (scan log) ns) → AreAdvertised ends (scan (log ++ ns))
told_at ends log ns a = subst (AreAdvertised ends) (sym (seen_all-append unread log ns)) a

next_told : (laws : LawsBelow) (s s' : Scene) (deed : Deed) → DoesDeed deed s s' → AreToldAt s → AreToldAt s'
next_told laws s s' (Dials host id socket to buffers now) does a =
    subst AreToldAt (sym does.after)
    (told_at _ s.log (Opened (length s.ends) host buffers ∷ [])
    (told_new s.ends (scan s.log) _ _ _ refl refl (λ l is. let same : dialed id socket to buffers now ≡ l = cc is in (ap (λ (x : LinkView). x.next) (sym same), ap (λ (x : LinkView). x.buffers) (sym same))) a))
next_told laws s s' (Accepts host id socket parcel buffers now) does a =
    subst AreToldAt (sym does.after)
    (told_at _ s.log (Accepted (length s.ends) parcel buffers ∷ Got (length s.ends) parcel ∷ [])
    (told_new s.ends (scan s.log) _ _ _ refl refl
    (λ l is. let same : accepted_from id socket does.packet.header.from does.header buffers now ≡ l = cc is in (ap (λ (x : LinkView). x.next) (sym same), ap (λ (x : LinkView). x.buffers) (sym same))) a))
next_told laws s s' (Reads who parcel) does a =
    let k : LinkView = (receive_link does.link does.header does.body).1 in
    let r : Received = (receive_link does.link does.header does.body).0 in
    subst AreToldAt (sym does.after)
    (told_at _ s.log (notes_of r who parcel)
    (told_set s.ends (scan s.log) _ who [] does.stand (linked does.stand k) does.stands.there
    (same_link who does.stand does.link (linked does.stand k) k does.stands.link refl (laws.lasting.receives does.link does.header does.body)) (read_sent r who parcel (scan s.log)) a))
next_told laws s s' (OwesReply who) does a =
    let k : LinkView = owe_reply_link does.link in
    subst AreToldAt (sym does.after)
    (told_set s.ends (scan s.log) (scan s.log) who [] does.stand (linked does.stand k) does.stands.there
    (same_link who does.stand does.link (linked does.stand k) k does.stands.link refl refl) (nothing_sent who (scan s.log) (scan s.log) refl refl) a)
next_told laws s s' (Paces who window manual) does a =
    let k : LinkView = pace_link does.link window manual in
    subst AreToldAt (sym does.after)
    (told_set s.ends (scan s.log) (scan s.log) who [] does.stand (linked does.stand k) does.stands.there
    (same_link who does.stand does.link (linked does.stand k) k does.stands.link refl refl) (nothing_sent who (scan s.log) (scan s.log) refl refl) a)
next_told laws s s' (AsksAgain who place) does a =
    let k : LinkView = again_link does.link place in
    subst AreToldAt (sym does.after)
    (told_set s.ends (scan s.log) (scan s.log) who [] does.stand (linked does.stand k) does.stands.there
    (same_link who does.stand does.link (linked does.stand k) k does.stands.link refl refl) (nothing_sent who (scan s.log) (scan s.log) refl refl) a)
next_told laws s s' (Gives who now segment bytes) does a =
    let k : LinkView = (poll_link does.link now).1 in
    let what : Sent = does.given.what in
    let next : NextBy what does.link k = subst (λ o. NextOf o does.link k) does.gives (laws.lasting.polls does.link now) in
    subst AreToldAt (sym does.after)
    (told_at _ s.log (note_of what who (length s.parcels) ∷ [])
    (told_set s.ends (scan s.log) _ who (given_more what who) does.stand (linked does.stand k) does.stands.there
    (given_link who does.stand does.link k what does.stands.link next) (given_sent (scan s.log) what who (length s.parcels)) a))
next_told laws s s' (Rests who now) does a =
    let k : LinkView = (poll_link does.link now).1 in
    let next : lasting k ≡ lasting does.link = subst (λ o. NextOf o does.link k) does.gives (laws.lasting.polls does.link now) in
    subst AreToldAt (sym does.after)
    (told_set s.ends (scan s.log) (scan s.log) who [] does.stand (linked does.stand k) does.stands.there
    (same_link who does.stand does.link (linked does.stand k) k does.stands.link refl next) (nothing_sent who (scan s.log) (scan s.log) refl refl) a)
next_told laws s s' (Sends who m) does a =
    let k : LinkView = offer_link does.link (cut_of m) in
    subst AreToldAt (sym does.after)
    (told_at _ s.log (HandsIn who m ∷ [])
    (told_set s.ends (scan s.log) _ who [] does.stand (linked does.stand k) does.stands.there
    (same_link who does.stand does.link (linked does.stand k) k does.stands.link refl refl) (nothing_sent who (scan s.log) _ refl refl) a))
next_told laws s s' (Takes who u) does a =
    let k : LinkView = (take_link does.link).1 in
    let w : PresentEnd = record (linked does.stand k) { rest = does.joins.rest } in
    let out : seen_all (scan s.log) (TakesUnit who u ∷ out_notes who does.joins.messages) ≡ calmed (scan s.log) = outs_seen (scan s.log) who does.joins.messages in
    subst AreToldAt (sym does.after)
    (told_at _ s.log (TakesUnit who u ∷ out_notes who does.joins.messages)
    (told_set s.ends (scan s.log) _ who [] does.stand w does.stands.there
    (same_link who does.stand does.link w k does.stands.link refl (laws.lasting.takes does.link))
    (nothing_sent who (scan s.log) _ (ap (λ (t : Scan). t.sent) out) (ap (λ (t : Scan). t.roles) out)) a))
next_told laws s s' (Overruns who u) does a =
    let k : LinkView = lose_link (take_link does.link).1 in
    let w : PresentEnd = record { host = does.stand.host; own = does.stand.own; link = Some k; rest = None; overlong = true } in
    subst AreToldAt (sym does.after)
    (told_set s.ends (scan s.log) (scan s.log) who [] does.stand w does.stands.there
    (same_link who does.stand does.link w k does.stands.link refl (laws.lasting.takes does.link)) (nothing_sent who (scan s.log) (scan s.log) refl refl) a)
next_told laws s s' (Closes who) does a =
    let k : LinkView = end_link does.link in
    subst AreToldAt (sym does.after)
    (told_at _ s.log (AsksEnd who ∷ [])
    (told_set s.ends (scan s.log) _ who [] does.stand (linked does.stand k) does.stands.there
    (same_link who does.stand does.link (linked does.stand k) k does.stands.link refl refl) (nothing_sent who (scan s.log) _ refl refl) a))
next_told laws s s' (Releases who) does a =
    subst AreToldAt (sym does.after)
    (told_at _ s.log (Released who ∷ [])
    (told_set s.ends (scan s.log) _ who [] does.stand (record does.stand { link = None; rest = None }) does.stands.there (λ k is. absurd (cc is)) (nothing_sent who (scan s.log) _ refl refl) a))
next_told laws s s' (Carries from network segment bytes) does a =
    subst AreToldAt (sym does.after) (told_at s.ends s.log (Carried from (length s.parcels) ∷ []) (told_same s.ends (scan s.log) _ refl refl a))
next_told laws s s' (Tells router segment bytes) does a =
    subst AreToldAt (sym does.after) (told_at s.ends s.log (Told router (length s.parcels) ∷ []) (told_same s.ends (scan s.log) _ refl refl a))
next_told laws s s' (Injects segment bytes) does a =
    subst AreToldAt (sym does) (told_at s.ends s.log (Injected (length s.parcels) ∷ []) (told_same s.ends (scan s.log) _ refl refl a))

pub are_told : (laws : LawsBelow) {s : Scene} → Reached s → AreToldAt s
are_told laws {s} (begun is) =
    subst (λ es. AreAdvertised es (scan s.log)) (sym is.ends)
    (subst (λ l. AreAdvertised [] (scan l)) (sym is.log)
    (record { count = refl; next = λ who e l at. absurd (cc at); buffers = λ who e l r at. absurd (cc at); unmade = λ who past. refl }))
are_told laws {s} (happened old deed reached does) = next_told laws old s deed does (are_told laws reached)

pub ends_are_summarized : (laws : LawsBelow) (s : Scene) → Reached s → EndsAreSummarized s
ends_are_summarized laws s reached =
    let a = are_told laws reached in
    record {
      count = a.count;
      next = λ who e l stands. a.next who e l stands.there stands.link;
      buffers = λ who e l r stands role. a.buffers who e l r stands.there stands.link role;
      unmade = a.unmade;
    }
