-- In every scene that can be reached: a link that may still end has not had its peer's end. Until it has, no
-- unit that it took or holds is one.
use Rattle.std.proofs.Common.{ℕ, ◌<◌, ◌≡◌, ◌≢◌, ◌==◌, true, false, List, [], ◌∷◌, ◌++◌, length, set, Some, refl, sym, ap, ◌∙◌, subst, inl, inr, arith, slice_get, ne_eqb, length-set, ◌≤◌}
use Rattle.std.proofs.lemmas.Bool.{cond_both, cond-false}
use Rattle.std.proofs.lemmas.List.{append-nil, length-append}
use Rattle.std.proofs.lemmas.Option.{slice_get_within}
use Rattle.ipx_wire.specs.declared.spx.packet.SpxHeader.{SpxHeader}
use Rattle.spx_link.specs.declared.unit.Unit.{Unit}
use Rattle.spx_link.specs.declared.outgoing.Sent.{Sent}
use Rattle.spx_link.specs.declared.outgoing.Sent.TheVariants as Sents
use Rattle.spx_link.specs.declared.received.Received.{Received}
use Rattle.spx_link.specs.declared.received.Received.TheVariants as R
use Rattle.spx_link.specs.declared.state.State.{State}
use Rattle.spx_link.specs.declared.state.State.TheVariants as S
use Rattle.spx_link.specs.LinkView.{LinkView, is_end}
use Rattle.spx_link.specs.Offer.{take_held, take_link, end_link, offer_link, owe_reply_link, pace_link, again_link, lose_link, dialed, accepted_from}
use Rattle.spx_link.specs.Poll.{poll_link}
use Rattle.spx_link.specs.Receive.{any_end, after_end, is_own, is_reply, joined_link, read_numbers, read_packet, receive_joined, receive_at, receive_link}
use Rattle.spx_messages.specs.Message.{MessageView}
use Rattle.spx_messages.specs.Cut.{cut_of}
use Rattle.spx_theory.specs.Tracks.{may_end}
use Rattle.spx_theory.specs.Note.{Note, Opened, Accepted, Got, HandsIn, AsksEnd, TakesUnit, Released, Told, Carried, Injected}
use Rattle.spx_theory.specs.Handed.{taken_by, taken_of}
use Rattle.spx_theory.specs.Scene.{Scene, PresentEnd, IsPresent, linked}
use Rattle.spx_theory.specs.PacketsOnWay.{note_of, notes_of, out_notes}
use Rattle.spx_theory.specs.Deeds.{Deed, DoesDeed, Dials, Accepts, Reads, OwesReply, Paces, AsksAgain, Gives, Rests, Sends, Takes, Overruns, Closes, Releases, Carries, Tells, Injects, Reached, begun, happened}
use Rattle.spx_theory.specs.LinkLaws.{LinkLaws}
use Rattle.spx_theory.proofs.Hearing as Hearing
use Rattle.spx_theory.proofs.RoundLists.{get_last, get_set, or_false, or_first, or_second}

-- ---- a link

pub record Well (l : LinkView) : Type 0 where
  pub buffers : 0 < l.buffers
  pub open' : may_end l.state ≡ true → l.peer_ended ≡ false
  pub held : l.peer_ended ≡ false → any_end l.held ≡ false

pub record Keeps (l k : LinkView) : Type 0 where
  pub well : Well l → Well k
  pub before : k.peer_ended ≡ false → l.peer_ended ≡ false

keeps_same : (l : LinkView) → Keeps l l
keeps_same l = record { well = λ w. w; before = λ e. e }

any_end-append : (xs ys : List Unit) → any_end xs ≡ false → any_end ys ≡ false → any_end (xs ++ ys) ≡ false
any_end-append [] ys one two = two
any_end-append (x ∷ xs) ys one two = or_false (is_end x) (any_end (xs ++ ys)) (or_first (is_end x) (any_end xs) one) (any_end-append xs ys (or_second (is_end x) (any_end xs) one) two)

poll_keeps : (laws : LinkLaws) (l : LinkView) (now : ℕ) → Keeps l (poll_link l now).1
poll_keeps laws l now =
    let k : LinkView = (poll_link l now).1 in
    let ended : k.peer_ended ≡ l.peer_ended = (laws.endings l now).peer_ended in
    record {
      well = λ w. record {
        buffers = subst (λ n. 0 < n) (sym (laws.allowances.polls l now).same.buffers) w.buffers;
        open' = λ may. elim (laws.state l now) [
          | inl same ↦ ended ∙ w.open' (ap may_end (sym same) ∙ may)
          | inr gone ↦ absurd (cc (sym (ap may_end gone.0) ∙ may))
        ];
        held = λ e. ap any_end (laws.units l now).held ∙ w.held (sym ended ∙ e);
      };
      before = λ e. sym ended ∙ e;
    }

never_open : (s : State) → may_end (after_end s) ≡ false
never_open S.Opening = refl
never_open S.Live = refl
never_open S.Ending = refl
never_open S.PeerEnded = refl
never_open S.Confirmed = refl
never_open S.Lost = refl

read_keeps : (l : LinkView) (h : SpxHeader) (r : Received × LinkView) → Hearing.Reads l h r → r.1.buffers ≡ l.buffers → Keeps l r.1
read_keeps l h r reads buffers =
    record {
      well = λ w. record {
        buffers = subst (λ n. 0 < n) (sym buffers) w.buffers;
        open' = λ may. elim reads.state [
          | inl same ↦ same.1 ∙ w.open' (ap may_end (sym same.0) ∙ may)
          | inr (inl done) ↦ absurd (cc (sym (ap may_end done.0) ∙ may))
          | inr (inr ends) ↦ absurd (cc (sym (ap may_end ends.0 ∙ never_open l.state) ∙ may))
        ];
        held = λ e. let more = reads.more e in ap any_end more.held ∙ any_end-append l.held more.units (w.held (before reads.state e)) more.none;
      };
      before = before reads.state;
    }
  where
    before : Hearing.StateAfter l r.1 → r.1.peer_ended ≡ false → l.peer_ended ≡ false
    before (inl same) e = sym same.1 ∙ e
    before (inr (inl done)) e = sym done.3 ∙ e
    before (inr (inr ends)) e = absurd (cc (sym ends.1 ∙ e))

joined_keeps : (l : LinkView) (h : SpxHeader) (body : List ℕ) → ((receive_joined l h body).1.buffers ≡ l.buffers) → Keeps l (receive_joined l h body).1
joined_keeps l h body buffers =
    cond_both {A = Received × LinkView} (is_own l h) (read_packet l h body) (R.Stranger, l) (λ r. r.1.buffers ≡ l.buffers → Keeps l r.1)
    (λ own same. read_keeps l h (read_packet l h body) (Hearing.packet_reads l h body) same)
    (λ other same. keeps_same l) buffers

receive_keeps_at : (st : State) (l : LinkView) (h : SpxHeader) (body : List ℕ) → l.state ≡ st → (receive_at st l h body).1.buffers ≡ l.buffers → Keeps l (receive_at st l h body).1
receive_keeps_at S.Opening l h body is buffers =
    cond_both {A = Received × LinkView} (is_reply l h) (R.Joined, read_numbers (joined_link l h) h) (R.Stranger, l) (λ r. Keeps l r.1)
    (λ joins. record {
      well = λ w. record { buffers = w.buffers; open' = λ may. w.open' (ap may_end is); held = w.held };
      before = λ e. e;
    })
    (λ other. keeps_same l)
receive_keeps_at S.Live l h body is buffers = joined_keeps l h body buffers
receive_keeps_at S.Ending l h body is buffers = joined_keeps l h body buffers
receive_keeps_at S.PeerEnded l h body is buffers = joined_keeps l h body buffers
receive_keeps_at S.Confirmed l h body is buffers = joined_keeps l h body buffers
receive_keeps_at S.Lost l h body is buffers = keeps_same l

receive_keeps : (laws : LinkLaws) (l : LinkView) (h : SpxHeader) (body : List ℕ) → Keeps l (receive_link l h body).1
receive_keeps laws l h body = receive_keeps_at l.state l h body refl (laws.allowances.buffers l h body)

lost_keeps : (l : LinkView) → Keeps l (lose_link l)
lost_keeps l = record { well = λ w. record { buffers = w.buffers; open' = λ may. absurd (cc may); held = w.held }; before = λ e. e }

-- a take: the link after it, and the unit
pub record TakesWell (l k : LinkView) (u : Unit) : Type 0 where
  pub keeps : Keeps l k
  pub unit : Well l → l.peer_ended ≡ false → is_end u ≡ false

take_keeps_of : (l : LinkView) (u : Unit) (hs : List Unit) → l.held ≡ hs → (take_held l hs).0 ≡ Some u → TakesWell l (take_held l hs).1 u
take_keeps_of l u [] is gives = absurd (cc gives)
take_keeps_of l u (v ∷ vs) is gives =
    let same : v ≡ u = cc gives in
    record {
      keeps = record {
        well = λ w. record { buffers = w.buffers; open' = w.open'; held = λ e. or_second (is_end v) (any_end vs) (ap any_end (sym is) ∙ w.held e) };
        before = λ e. e;
      };
      unit = λ w e. ap is_end (sym same) ∙ or_first (is_end v) (any_end vs) (ap any_end (sym is) ∙ w.held e);
    }

-- ---- an end of a scene

abbrev ends_of : Scene → List PresentEnd
ends_of z = z.ends

abbrev log_of : Scene → List Note
log_of z = z.log

pub record WellAt (log : List Note) (who : ℕ) (l : LinkView) : Type 0 where
  pub link : Well l
  pub taken : l.peer_ended ≡ false → any_end (taken_of who log) ≡ false

abbrev pub AllWell : Scene → Type 0
AllWell s = (who : ℕ) (e : PresentEnd) (l : LinkView) → IsPresent s who e l → WellAt s.log who l

gathered-append : (who : ℕ) (xs ys : List Note) → taken_of who (xs ++ ys) ≡ taken_of who xs ++ taken_of who ys
gathered-append who [] ys = refl
gathered-append who (x ∷ xs) ys = ap (λ zs. taken_by who x ++ zs) (gathered-append who xs ys) ∙ sym (assoc (taken_by who x) (taken_of who xs) (taken_of who ys))
  where
    assoc : (us vs ws : List Unit) → (us ++ vs) ++ ws ≡ us ++ (vs ++ ws)
    assoc [] vs ws = refl
    assoc (u ∷ us) vs ws = ap (λ zs. u ∷ zs) (assoc us vs ws)

-- a log with more entries, none of them a take of this end
taken_on : (who : ℕ) (log new ns : List Note) → new ≡ log ++ ns → taken_of who ns ≡ [] → taken_of who new ≡ taken_of who log
taken_on who log new ns is none = ap (taken_of who) is ∙ (gathered-append who log ns ∙ (ap (λ us. taken_of who log ++ us) none ∙ append-nil (taken_of who log)))

well_on : (who : ℕ) (log new ns : List Note) (l k : LinkView) → new ≡ log ++ ns → taken_of who ns ≡ [] → Keeps l k → WellAt log who l → WellAt new who k
well_on who log new ns l k is none keeps w =
    record { link = keeps.well w.link; taken = λ e. ap any_end (taken_on who log new ns is none) ∙ w.taken (keeps.before e) }

pub record Wells (s : Scene) : Type 0 where
  pub links : AllWell s
  -- an end that does not exist yet took nothing
  pub past : (who : ℕ) → length s.ends ≤ who → taken_of who s.log ≡ []

set_well : (s s' : Scene) (who : ℕ) (w : PresentEnd) (ns : List Note) → s'.log ≡ s.log ++ ns → s'.ends ≡ set s.ends who w → who < length s.ends → ((j : ℕ) → who ≢ j → taken_of j ns ≡ [])
    → ((l : LinkView) → w.link ≡ Some l → WellAt s'.log who l) → Wells s → Wells s'
set_well s s' who w ns log ends within none now f =
    record {
      links = λ j e l stands. elim (get_set s.ends who j w e (ap (λ es. slice_get es j) (sym ends) ∙ stands.there)) [
        | inl here ↦ subst (λ i. WellAt s'.log i l) here.0 (now l (ap (λ (x : PresentEnd). x.link) here.1 ∙ stands.link))
        | inr other ↦ well_on j s.log s'.log ns l l log (none j other.0) (keeps_same l) (f.links j e l (record { there = other.1; link = stands.link }))
      ];
      past = λ j beyond.
          let low : length s.ends ≤ j = omega (arith, beyond, ap length ends, length-set s.ends who w) in
          taken_on j s.log s'.log ns log (none j (λ z. omega (arith, z, low, within))) ∙ f.past j low;
    }

more_well : (s s' : Scene) (w : PresentEnd) (k : LinkView) (ns : List Note) → s'.log ≡ s.log ++ ns → s'.ends ≡ s.ends ++ w ∷ [] → w.link ≡ Some k → ((j : ℕ) → taken_of j ns ≡ []) → Well k → Wells s → Wells s'
more_well s s' w k ns log ends is none new f =
    record {
      links = λ j e l stands. elim (get_last s.ends w e j (ap (λ es. slice_get es j) (sym ends) ∙ stands.there)) [
        | inl was ↦ well_on j s.log s'.log ns l l log (none j) (keeps_same l) (f.links j e l (record { there = was; link = stands.link }))
        | inr here ↦
            let same : Some k ≡ Some l = sym is ∙ (ap (λ (x : PresentEnd). x.link) here.1 ∙ stands.link) in
            let link : k ≡ l = cc same in
            subst (λ i. WellAt s'.log i l) (sym here.0)
            (record { link = subst Well link new; taken = λ e'. ap any_end (taken_on (length s.ends) s.log s'.log ns log (none (length s.ends)) ∙ f.past (length s.ends) (omega arith)) })
      ];
      past = λ j beyond. taken_on j s.log s'.log ns log (none j) ∙ f.past j (omega (arith, beyond, ap length ends, length-append s.ends (w ∷ [])));
    }

same_well : (s s' : Scene) (ns : List Note) → s'.log ≡ s.log ++ ns → s'.ends ≡ s.ends → ((j : ℕ) → taken_of j ns ≡ []) → Wells s → Wells s'
same_well s s' ns log ends none f =
    record {
      links = λ j e l stands. well_on j s.log s'.log ns l l log (none j) (keeps_same l) (f.links j e l (record { there = ap (λ es. slice_get es j) (sym ends) ∙ stands.there; link = stands.link }));
      past = λ j beyond. taken_on j s.log s'.log ns log (none j) ∙ f.past j (omega (arith, beyond, ap length ends));
    }

-- one link is replaced, by a call that keeps this
link_well : (s s' : Scene) (who : ℕ) (e : PresentEnd) (l k : LinkView) (ns : List Note) → s'.log ≡ s.log ++ ns → s'.ends ≡ set s.ends who (linked e k) → ((j : ℕ) → taken_of j ns ≡ []) → IsPresent s who e l → Keeps l k → Wells s → Wells s'
link_well s s' who e l k ns log ends none stands keeps f =
    set_well s s' who (linked e k) ns log ends (slice_get_within s.ends who e stands.there) (λ j other. none j)
    (λ m is. let same : k ≡ m = cc is in subst (WellAt s'.log who) same (well_on who s.log s'.log ns l k log (none who) keeps (f.links who e l stands))) f

given_none : (what : Sent) (who k j : ℕ) → taken_of j (note_of what who k ∷ []) ≡ []
given_none Sents.Request who k j = refl
given_none Sents.Reply who k j = refl
given_none Sents.Confirm who k j = refl
given_none Sents.Unit who k j = refl
given_none Sents.Again who k j = refl
given_none Sents.Ack who k j = refl
given_none Sents.Probe who k j = refl

read_none : (r : Received) (who k j : ℕ) → taken_of j (notes_of r who k) ≡ []
read_none R.Joined who k j = refl
read_none R.Kept who k j = refl
read_none R.Repeat who k j = refl
read_none R.Ahead who k j = refl
read_none R.OverAllocation who k j = refl
read_none R.System who k j = refl
read_none R.PeerEnded who k j = refl
read_none R.Confirmed who k j = refl
read_none R.Stranger who k j = refl

outs_none : (who : ℕ) (ms : List MessageView) (j : ℕ) → taken_of j (out_notes who ms) ≡ []
outs_none who [] j = refl
outs_none who (m ∷ ms) j = outs_none who ms j

silent : (s s' : Scene) → s'.log ≡ s.log → s'.log ≡ s.log ++ []
silent s s' is = is ∙ sym (append-nil s.log)

next_well : (laws : LinkLaws) (s s' : Scene) (deed : Deed) → DoesDeed deed s s' → Wells s → Wells s'
next_well laws s s' (Dials host id socket to buffers now) does f =
    more_well s s' _ (dialed id socket to buffers now) (Opened (length s.ends) host buffers ∷ []) (ap log_of does.after) (ap ends_of does.after) refl (λ j. refl)
    (record { buffers = does.range.0; open' = λ may. refl; held = λ e. refl }) f
next_well laws s s' (Accepts host id socket parcel buffers now) does f =
    more_well s s' _ (accepted_from id socket does.packet.header.from does.header buffers now) (Accepted (length s.ends) parcel buffers ∷ Got (length s.ends) parcel ∷ []) (ap log_of does.after) (ap ends_of does.after) refl (λ j. refl)
    (record { buffers = does.range.0; open' = λ may. refl; held = λ e. refl }) f
next_well laws s s' (Reads who parcel) does f =
    link_well s s' who does.stand does.link (receive_link does.link does.header does.body).1 (notes_of (receive_link does.link does.header does.body).0 who parcel) (ap log_of does.after) (ap ends_of does.after)
    (λ j. read_none (receive_link does.link does.header does.body).0 who parcel j) does.stands (receive_keeps laws does.link does.header does.body) f
next_well laws s s' (OwesReply who) does f =
    link_well s s' who does.stand does.link (owe_reply_link does.link) [] (silent s s' (ap log_of does.after)) (ap ends_of does.after) (λ j. refl) does.stands
    (record { well = λ w. record { buffers = w.buffers; open' = w.open'; held = w.held }; before = λ e. e }) f
next_well laws s s' (Paces who window manual) does f =
    link_well s s' who does.stand does.link (pace_link does.link window manual) [] (silent s s' (ap log_of does.after)) (ap ends_of does.after) (λ j. refl) does.stands
    (record { well = λ w. record { buffers = w.buffers; open' = w.open'; held = w.held }; before = λ e. e }) f
next_well laws s s' (AsksAgain who place) does f =
    link_well s s' who does.stand does.link (again_link does.link place) [] (silent s s' (ap log_of does.after)) (ap ends_of does.after) (λ j. refl) does.stands
    (record { well = λ w. record { buffers = w.buffers; open' = w.open'; held = w.held }; before = λ e. e }) f
next_well laws s s' (Gives who now segment bytes) does f =
    link_well s s' who does.stand does.link (poll_link does.link now).1 (note_of does.given.what who (length s.parcels) ∷ []) (ap log_of does.after) (ap ends_of does.after)
    (λ j. given_none does.given.what who (length s.parcels) j) does.stands (poll_keeps laws does.link now) f
next_well laws s s' (Rests who now) does f =
    link_well s s' who does.stand does.link (poll_link does.link now).1 [] (silent s s' (ap log_of does.after)) (ap ends_of does.after) (λ j. refl) does.stands (poll_keeps laws does.link now) f
next_well laws s s' (Sends who m) does f =
    link_well s s' who does.stand does.link (offer_link does.link (cut_of m)) (HandsIn who m ∷ []) (ap log_of does.after) (ap ends_of does.after) (λ j. refl) does.stands
    (record { well = λ w. record { buffers = w.buffers; open' = w.open'; held = w.held }; before = λ e. e }) f
next_well laws s s' (Takes who u) does f =
    let l : LinkView = does.link in
    let ms : List MessageView = does.joins.messages in
    let ns : List Note = TakesUnit who u ∷ out_notes who ms in
    let t : TakesWell l (take_link l).1 u = take_keeps_of l u l.held refl does.gives in
    let w : WellAt s.log who l = f.links who does.stand l does.stands in
    set_well s s' who _ ns (ap log_of does.after) (ap ends_of does.after) (slice_get_within s.ends who does.stand does.stands.there)
    (λ j other. ap (λ us. us ++ taken_of j (out_notes who ms)) (cond-false (who == j) (u ∷ []) [] (ne_eqb who j other)) ∙ outs_none who ms j)
    (λ k is.
    let same : (take_link l).1 ≡ k = cc is in
    subst (WellAt s'.log who) same
    (record {
      link = t.keeps.well w.link;
      taken = λ e.
          let open' : l.peer_ended ≡ false = t.keeps.before e in
          ap any_end (ap (taken_of who) (ap log_of does.after) ∙ gathered-append who s.log ns)
          ∙ any_end-append (taken_of who s.log) (taken_of who ns) (w.taken open')
          (ap (λ us. any_end (taken_by who (TakesUnit who u) ++ us)) (outs_none who ms who)
          ∙ cond_both (who == who) (u ∷ []) [] (λ us. any_end (us ++ []) ≡ false) (λ own. or_false (is_end u) false (t.unit w.link open') refl) (λ other. refl));
    })) f
next_well laws s s' (Overruns who u) does f =
    let l : LinkView = does.link in
    let t : TakesWell l (take_link l).1 u = take_keeps_of l u l.held refl does.gives in
    let lost = lost_keeps (take_link l).1 in
    set_well s s' who _ [] (silent s s' (ap log_of does.after)) (ap ends_of does.after) (slice_get_within s.ends who does.stand does.stands.there) (λ j other. refl)
    (λ k is.
    let same : lose_link (take_link l).1 ≡ k = cc is in
    subst (WellAt s'.log who) same
    (well_on who s.log s'.log [] l (lose_link (take_link l).1) (silent s s' (ap log_of does.after)) refl
    (record { well = λ w. lost.well (t.keeps.well w); before = λ e. t.keeps.before (lost.before e) }) (f.links who does.stand l does.stands))) f
next_well laws s s' (Closes who) does f =
    link_well s s' who does.stand does.link (end_link does.link) (AsksEnd who ∷ []) (ap log_of does.after) (ap ends_of does.after) (λ j. refl) does.stands
    (record { well = λ w. record { buffers = w.buffers; open' = λ may. absurd (cc may); held = w.held }; before = λ e. e }) f
next_well laws s s' (Releases who) does f =
    set_well s s' who _ (Released who ∷ []) (ap log_of does.after) (ap ends_of does.after) (slice_get_within s.ends who does.stand does.stands.there) (λ j other. refl) (λ k is. absurd (cc is)) f
next_well laws s s' (Carries from network segment bytes) does f = same_well s s' (Carried from (length s.parcels) ∷ []) (ap log_of does.after) (ap ends_of does.after) (λ j. refl) f
next_well laws s s' (Tells router segment bytes) does f = same_well s s' (Told router (length s.parcels) ∷ []) (ap log_of does.after) (ap ends_of does.after) (λ j. refl) f
next_well laws s s' (Injects segment bytes) does f = same_well s s' (Injected (length s.parcels) ∷ []) (ap log_of does) (ap ends_of does) (λ j. refl) f

pub wells : (laws : LinkLaws) {s : Scene} → Reached s → Wells s
wells laws {s} (begun is) =
    record {
      links = λ who e l stands. absurd (cc (sym (ap (λ es. slice_get es who) is.ends) ∙ stands.there));
      past = λ who beyond. ap (taken_of who) is.log;
    }
wells laws {s} (happened old deed reached does) = next_well laws old s deed does (wells laws reached)

-- ---- what this means for the units that are read

pub none_is_end : (log : List Note) (who : ℕ) (l : LinkView) → WellAt log who l → l.peer_ended ≡ false → (k : ℕ) (u : Unit) → slice_get (taken_of who log ++ l.held) k ≡ Some u → is_end u ≡ false
none_is_end log who l w e k u is = Hearing.no_end (taken_of who log ++ l.held) k u (any_end-append (taken_of who log) l.held (w.taken e) (w.link.held e)) is
